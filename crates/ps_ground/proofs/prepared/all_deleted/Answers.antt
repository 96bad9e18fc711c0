use Rattle.std.proofs.Common.{◌≡◌, ◌+◌, ◌∷◌, [], ℕ, List, Option, not, filter, flat_map, fold, drop, ap, sym, ◌∙◌, arith}
use Rattle.std.specs.List.{list_any}
use Rattle.std.specs.Option.{option_map_or}
use Rattle.std.proofs.lemmas.List.{drop_all, drop_more}
use Rattle.std.proofs.lemmas.List.Sums.{fold-append}
use Rattle.smallvec.specs.SmallVec.{SmallVec}
use Rattle.ps_world.specs.declared.actions.Effect.{Effect}
use Rattle.ps_world.specs.declared.actions.Spread.{Spread}
use Rattle.ps_world.specs.declared.facts.Fact.{Fact}
use Rattle.ps_action.specs.Effects.{deletes}
use Rattle.ps_ground.specs.Prepared.{put_alone, without_at}
use Rattle.ps_ground.proofs.Preparing.{deleted_more, without_atoms}
use Rattle.ps_ground.proofs.Removed.{filter_all}
use Rattle.ps_ground.proofs.prepared.all_deleted.Goals as goal
use Rattle.ps_ground.proofs.prepared.all_deleted.Goals.{in-Some+in_ok-push, in_default}

pub loop-effect-preserved : goal.loop-effect-preserved
loop-effect-preserved c =
    let of : Spread → List Effect = put_alone c.args.args.now in
    let es = c.args.effects.now in
    let i = c.loop-effect.effect-index in
    let x = c.effect-item.result in
    let atoms = c.args.atoms.now in
    let places = c.loop-effect.places.items in
    let split : drop i es ≡ x ∷ drop (i + 1) es = drop_more es i x (omega arith) ∙ ap (λ (y : Spread). y ∷ drop (i + 1) es) (sym c.effect-item.is) in
    let more = flat_map of (drop (i + 1) es) in
    let rest = λ (fs : List Fact). filter (λ f. not (list_any (deletes f) more)) fs in
    let both = λ (fs : List Fact). deleted_more atoms (of x) more fs ∙ (λ j. filter (λ f. not (list_any (deletes f) (flat_map of (sym split j)))) fs) in
    elim c.match-deleted_alone.branch [
      | in-Some+in_ok-push w ↦
          λ fs a.
          let left = fold (without_at atoms) fs places in
          let now : without_at atoms left w.in-Some.place ≡ filter (λ f. not (list_any (deletes f) (of x))) left =
          (sym (ap (λ (o : Option ℕ). option_map_or (without_at atoms left) o left) w.in-Some.is) ∙ c.deleted_alone.ensures left (without_atoms atoms places fs a)) in
          ap (λ (v : SmallVec ℕ). rest (fold (without_at atoms) fs v.items)) w.places-is
          ∙ ap (λ (l : List ℕ). rest (fold (without_at atoms) fs l)) w.in_ok-push.ensures.ok
          ∙ ap rest (fold-append (without_at atoms) fs places (w.in-Some.place ∷ []) ∙ now)
          ∙ both left ∙ c.loop-effect.invariant fs a
      | in_default w ↦
          λ fs a.
          let left = fold (without_at atoms) fs places in
          let now : left ≡ filter (λ f. not (list_any (deletes f) (of x))) left =
          (sym (ap (λ (o : Option ℕ). option_map_or (without_at atoms left) o left) w.in_default.is) ∙ c.deleted_alone.ensures left (without_atoms atoms places fs a)) in
          ap (λ (v : SmallVec ℕ). rest (fold (without_at atoms) fs v.items)) w.places-is
          ∙ ap rest now
          ∙ both left ∙ c.loop-effect.invariant fs a
    ]

pub returns : goal.returns
returns c =
    let of : Spread → List Effect = put_alone c.args.args.now in
    let es = c.args.effects.now in
    let i = c.loop-effect.effect-index in
    let atoms = c.args.atoms.now in
    let gone : drop i es ≡ [] = drop_all i es (omega arith) in
    λ fs a.
    let left = fold (without_at atoms) fs c.loop-effect.places.items in
    sym (filter_all left) ∙ (λ j. filter (λ f. not (list_any (deletes f) (flat_map of (sym gone j)))) left) ∙ c.loop-effect.invariant fs a
