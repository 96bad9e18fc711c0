use Rattle.std.proofs.Common.{◌≡◌, ◌+◌, ◌<◌, ℕ, Bool, List, [], ◌∷◌, ◌++◌, length, take, get_or, sym, ap, ◌∙◌, append_assoc}
use Rattle.std.specs.Prelude.{Option, filter_map}
use Rattle.std.specs.Option.{option_to_list}
use Rattle.std.specs.List.{cons_option}
use Rattle.std.proofs.lemmas.List.{take_more}
use Rattle.std.proofs.lemmas.List.Elements.{filter_map-append}
use Rattle.ps_world.proofs.Optionals.{cons_option-nil}
use Rattle.ps_hub.specs.declared.report.Report.{Report}
use Rattle.ps_reports.specs.Audit.{told}
use Rattle.ps_reports.specs.Stints.{stint, stint_at}
use Rattle.ps_reports.proofs.keeping.keep_of.Goals as goal

-- what is kept of cons_option-nil report more
step : {A B : Type 0} (f : A → Option B) (xs : List A) (i : ℕ) (x : A) → i < length xs → x ≡ get_or xs i x → filter_map f (take (i + 1) xs) ≡ filter_map f (take i xs) ++ option_to_list (f x)
step f xs i x less is =
    ap (filter_map f) (take_more xs i x less) ∙ (filter_map-append f (take i xs) (get_or xs i x ∷ []) ∙ (ap (λ y. filter_map f (take i xs) ++ cons_option (f y) []) (sym is) ∙ ap (λ l. filter_map f (take i xs) ++ l) (cons_option-nil (f x))))

pub loop-report-preserved : goal.loop-report-preserved
loop-report-preserved c =
    let p = c.args.performer.now in
    let h = c.args.h.now in
    let place = c.args.place in
    let f : Report → Option (Bool × Report) = λ y. told p place (stint y.r p.name h) y in
    let xs = c.args.reports.now in
    let i = c.loop-report.report-index in
    let x = c.report-item.result in
    let kept = c.args.kept.now.items in
    let same : told p place (stint_at c.in_ok-stints.stints x.r) x ≡ f x =
    ap (λ t. told p place t x) (c.in_ok-stints.ensures.tells.each x.r ∙ ap (λ q. stint x.r q h) c.in_ok-stints.ensures.name) in
    c.in_ok-keep_one.ensures
    ∙ (ap (λ o. c.loop-report.kept.items ++ option_to_list o) same
    ∙ (ap (λ k. k ++ option_to_list (f x)) c.loop-report.invariant
    ∙ (append_assoc kept (filter_map f (take i xs)) (option_to_list (f x)) ∙ ap (λ k. kept ++ k) (sym (step f xs i x c.loop-report-test.true c.report-item.is)))))
