use Rattle.std.proofs.Common.{◌≡◌, ◌+◌, ◌++◌, ◌∷◌, [], ℕ, List, Option, drop, get_or, option_map, ap, sym, ◌∙◌, arith}
use Rattle.std.specs.Prelude.{slice_get}
use Rattle.std.proofs.lemmas.List.{append-nil, append_assoc, drop_all, drop_more}
use Rattle.std.proofs.lemmas.List.Elements.{filter_map-append}
use Rattle.ps_action.specs.declared.acts.Act.{Act}
use Rattle.ps_ground.specs.declared.prepared.Prepared.{Prepared}
use Rattle.ps_solve.specs.Queue.{acts_at}
use Rattle.ps_solve.proofs.task.Task.acts_at.Goals as goal

pub loop-place-init : goal.loop-place-init
loop-place-init c = ap (λ (l : List Act). l ++ acts_at c.args.self.now.grounds.actions.items c.args.places.now) c.new-acts.ensures

pub loop-place-preserved : goal.loop-place-preserved
loop-place-preserved c =
    let ps = c.args.self.now.grounds.actions.items in
    let places = c.args.places.now in
    let i = c.loop-place.place-index in
    let x = get_or places i 0 in
    let rest = drop (i + 1) places in
    let f : ℕ → Option Act = λ j. option_map (λ (p : Prepared). p.act) (slice_get ps j) in
    let split : drop i places ≡ x ∷ rest = drop_more places i 0 (omega arith) in
    ap (λ (l : List Act). l ++ acts_at ps rest) c.in_ok-push_act.ensures
    ∙ append_assoc c.loop-place.acts (acts_at ps (x ∷ [])) (acts_at ps rest)
    ∙ ap (λ (l : List Act). c.loop-place.acts ++ l) (sym (filter_map-append f (x ∷ []) rest))
    ∙ ap (λ (l : List ℕ). c.loop-place.acts ++ acts_at ps l) (sym split)
    ∙ c.loop-place.invariant

pub returns : goal.returns
returns c =
    let ps = c.args.self.now.grounds.actions.items in
    let places = c.args.places.now in
    sym (append-nil c.loop-place.acts)
    ∙ ap (λ (l : List ℕ). c.loop-place.acts ++ acts_at ps l) (sym (drop_all c.loop-place.place-index places (omega arith)))
    ∙ c.loop-place.invariant
