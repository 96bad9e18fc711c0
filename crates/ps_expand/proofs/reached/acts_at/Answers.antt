use Rattle.std.proofs.Common.{◌≡◌, ◌+◌, ◌++◌, ◌∷◌, [], ℕ, List, drop, get_or, ap, sym, ◌∙◌, arith}
use Rattle.std.specs.Prelude.{slice_get}
use Rattle.std.proofs.lemmas.List.{append_assoc, drop_more}
use Rattle.std.proofs.lemmas.List.Elements.{filter_map-append}
use Rattle.ps_action.specs.declared.acts.Act.{Act}
use Rattle.ps_expand.specs.Reached.{acts_at}
use Rattle.ps_expand.proofs.reached.acts_at.Goals as goal

pub loop-place-preserved : goal.loop-place-preserved
loop-place-preserved c =
    let acts = c.args.acts.now in
    let places = c.args.places.now in
    let i = c.loop-place.place-index in
    let x = get_or places i 0 in
    let rest = drop (i + 1) places in
    let split : drop i places ≡ x ∷ rest = drop_more places i 0 (omega arith) in
    ap (λ (l : List Act). l ++ acts_at acts rest) c.in_ok-push_act.ensures
    ∙ append_assoc c.loop-place.path (acts_at acts (x ∷ [])) (acts_at acts rest)
    ∙ ap (λ (l : List Act). c.loop-place.path ++ l) (sym (filter_map-append (slice_get acts) (x ∷ []) rest))
    ∙ ap (λ (l : List ℕ). c.loop-place.path ++ acts_at acts l) (sym split)
    ∙ c.loop-place.invariant
