-- A numbered list has no two reports of one performer and request with one number.
use Rattle.std.proofs.Common.{◌≡◌, ◌≢◌, ◌⊎◌, ℕ, zero, suc, ◌+◌, ◌<◌, ◌≤◌, ◌==◌, ◌&&◌, ◌||◌, Bool, true, false, List, [], ◌∷◌, ◌++◌, length, slice_index_or, refl, ap, sym, ◌∙◌, subst, arith, append_assoc}
use Rattle.std.specs.Prelude.{if◌then◌else◌, fold, IfOk, Ok, Err, Result}
use Rattle.std.specs.List.{list_any}
use Rattle.std.proofs.lemmas.Bool.{ne_eqb}
use Rattle.std.proofs.lemmas.List.{append-nil, length-append}
use Rattle.std.proofs.Math.Seq.{get_or-append_seam}
use mathlib.Core.Logic.{dite}
use native.Mathlib.Decide.{ℕ_discrete}
use Rattle.ps_hub.specs.declared.report.Report.{Report}
use Rattle.ps_hub.specs.Reports.{of, on, CountsUp, IsNumbered}
use Rattle.ps_hub.proofs.Lists.{of_more, on_more, numbered_prefix}
use Rattle.ps_machine.specs.declared.inputs.Input.{Input}
use Rattle.ps_machine.specs.declared.journal.Entry.{Entry}
use Rattle.ps_reports.specs.Audit.{firsts, IsAudit, IsAuditOfFirsts, kept_of_all, same_place, untold, with_first}
use Rattle.ps_reports.specs.Laws.{NumberedStandOnce}
use Rattle.ps_reports.specs.declared.audited.Audit.{Audit}

-- the reports with a report's performer, request and number are those of its performer and request that have its number
among : (x : Report) (ys : List Report) → list_any (same_place x) ys ≡ list_any (λ y. x.n == y.n) (on x.r (of x.by ys))
among x [] = refl
among x (y ∷ ys) =
    let rest = among x ys in
    dite (ℕ_discrete y.by x.by)
    (λ same. dite (ℕ_discrete y.r x.r) (λ also. grind (arith, rest, same, also)) (λ other. grind (arith, rest, same, other)))
    (λ other. grind (arith, rest, other))

-- none of the reports that count up from a number has one that is past them
past : (a m : ℕ) (ys : List Report) → ((k : ℕ) (d : Report) → k < length ys → (slice_index_or ys k d).n ≡ a + k) → a + length ys ≤ m → list_any (λ y. m == y.n) ys ≡ false
past a m [] up le = refl
past a m (y ∷ ys) up le =
    let here : y.n ≡ a + 0 = up 0 y (omega arith) in
    let other : (m == y.n) ≡ false = ne_eqb m y.n (λ same. omega arith) in
    let rest = past (a + 1) m ys (λ k d less. up (suc k) d (omega arith) ∙ (omega arith)) (omega arith) in
    ap (λ b. b || list_any (λ y. m == y.n) ys) other ∙ rest

-- so the last report of a numbered list stands in it once
new : (xs : List Report) (x : Report) → IsNumbered (xs ++ x ∷ []) → list_any (same_place x) xs ≡ false
new xs x num =
    let mine = on x.r (of x.by xs) in
    let all : on x.r (of x.by (xs ++ x ∷ [])) ≡ mine ++ x ∷ [] = ap (on x.r) (of_more x.by xs x refl) ∙ on_more x.r (of x.by xs) x refl in
    let up : CountsUp (mine ++ x ∷ []) = subst CountsUp all (num x.by x.r) in
    let len : length (mine ++ x ∷ []) ≡ length mine + 1 = length-append mine (x ∷ []) in
    let number : x.n ≡ length mine = ap (λ (y : Report). y.n) (sym (get_or-append_seam mine x [] x)) ∙ up (length mine) x (omega arith) in
    let front : CountsUp mine = numbered_prefix xs (x ∷ []) num x.by x.r in
    among x xs ∙ past 0 x.n mine (λ k d less. front k d less ∙ omega arith) (omega arith)

once : (done rest : List Report) → IsNumbered (done ++ rest) → fold with_first done rest ≡ done ++ rest
once done [] num = sym (append-nil done)
once done (x ∷ rest) num =
    let moved : done ++ x ∷ rest ≡ (done ++ x ∷ []) ++ rest = sym (append_assoc done (x ∷ []) rest) in
    let later : IsNumbered ((done ++ x ∷ []) ++ rest) = subst IsNumbered moved num in
    let step : with_first done x ≡ done ++ x ∷ [] = ap (λ b. if b then done else done ++ x ∷ []) (new done x (numbered_prefix (done ++ x ∷ []) rest later)) in
    ap (λ l. fold with_first l rest) step ∙ (once (done ++ x ∷ []) rest later ∙ sym moved)

pub numbered_stand_once : NumberedStandOnce
numbered_stand_once rs num = once [] rs num

-- so an audit of its reports is an audit of the first ones
audits-all : (i : Input) (h : List Entry) (rs : List Report) (a : Audit) → IsNumbered rs → IsAuditOfFirsts i h rs a → IsAudit i h rs a
audits-all i h rs a num of =
    let all : rs ≡ firsts rs = sym (numbered_stand_once rs num) in record {
      kept_is = of.kept_is ∙ ap (kept_of_all i h) all;
      missing_is = of.missing_is ∙ ap (λ l. untold i h (kept_of_all i h l)) all;
    }

pub audits : {E : Type 0} (i : Input) (h : List Entry) (rs : List Report) (r : Result Audit E) → IsNumbered rs → IfOk r (IsAuditOfFirsts i h rs) → IfOk r (IsAudit i h rs)
audits i h rs (Ok a) num of = audits-all i h rs a num of
audits i h rs (Err e) num of = tt
