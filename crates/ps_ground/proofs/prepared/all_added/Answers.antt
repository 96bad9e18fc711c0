use Rattle.std.proofs.Common.{◌≡◌, ◌+◌, ◌∷◌, [], ℕ, List, Option, filter_map, flat_map, fold, drop, ap, sym, ◌∙◌, arith, subst}
use Rattle.std.specs.Option.{option_map_or}
use Rattle.std.specs.BTreeSet.{insert_key}
use Rattle.std.proofs.lemmas.List.{drop_all, drop_more}
use Rattle.std.proofs.lemmas.List.Sums.{fold-append}
use Rattle.smallvec.specs.SmallVec.{SmallVec}
use Rattle.ps_world.specs.Facts.{fact_cmp}
use Rattle.ps_world.specs.declared.actions.Effect.{Effect}
use Rattle.ps_world.specs.declared.actions.Spread.{Spread}
use Rattle.ps_world.specs.declared.facts.Fact.{Fact}
use Rattle.ps_action.specs.Effects.{added_by}
use Rattle.ps_ground.specs.Atoms.{AddAtoms}
use Rattle.ps_ground.specs.Prepared.{put_alone, with_at}
use Rattle.ps_ground.proofs.Preparing.{add_atoms_both, added_both}
use Rattle.ps_ground.proofs.prepared.all_added.Goals as goal
use Rattle.ps_ground.proofs.prepared.all_added.Goals.{in-Some+in_ok-push, in_default}

pub loop-effect-preserved : goal.loop-effect-preserved
loop-effect-preserved c =
    let of : Spread → List Effect = put_alone c.args.args.now in
    let es = c.args.effects.now in
    let i = c.loop-effect.effect-index in
    let x = c.effect-item.result in
    let atoms = c.args.atoms.now in
    let places = c.loop-effect.places.items in
    let split : drop i es ≡ x ∷ drop (i + 1) es = drop_more es i x (omega arith) ∙ ap (λ (y : Spread). y ∷ drop (i + 1) es) (sym c.effect-item.is) in
    let more = flat_map of (drop (i + 1) es) in
    let rest = λ (fs : List Fact). fold (insert_key fact_cmp) fs (filter_map added_by more) in
    let both = λ (fs : List Fact). added_both (of x) more fs ∙ (λ j. fold (insert_key fact_cmp) fs (filter_map added_by (flat_map of (sym split j)))) in
    let P : List Spread → Type 0 = λ l. AddAtoms atoms (flat_map of l) in
    λ all.
    let there = c.loop-effect.invariant all in
    let parts : AddAtoms atoms (of x) × AddAtoms atoms more = add_atoms_both atoms (of x) more (subst P split there.0) in (
      parts.1,
      elim c.match-added_alone.branch [
        | in-Some+in_ok-push w ↦
            λ fs.
            let left = fold (with_at atoms) fs places in
            let now : with_at atoms left w.in-Some.place ≡ fold (insert_key fact_cmp) left (filter_map added_by (of x)) =
            (sym (ap (λ (o : Option ℕ). option_map_or (with_at atoms left) o left) w.in-Some.is) ∙ c.added_alone.ensures parts.0 left) in
            ap (λ (v : SmallVec ℕ). rest (fold (with_at atoms) fs v.items)) w.places-is
            ∙ ap (λ (l : List ℕ). rest (fold (with_at atoms) fs l)) w.in_ok-push.ensures.ok
            ∙ ap rest (fold-append (with_at atoms) fs places (w.in-Some.place ∷ []) ∙ now)
            ∙ both left ∙ there.1 fs
        | in_default w ↦
            λ fs.
            let left = fold (with_at atoms) fs places in
            let now : left ≡ fold (insert_key fact_cmp) left (filter_map added_by (of x)) =
            (sym (ap (λ (o : Option ℕ). option_map_or (with_at atoms left) o left) w.in_default.is) ∙ c.added_alone.ensures parts.0 left) in
            ap (λ (v : SmallVec ℕ). rest (fold (with_at atoms) fs v.items)) w.places-is
            ∙ ap rest now
            ∙ both left ∙ there.1 fs
      ],
    )

pub returns : goal.returns
returns c =
    let of : Spread → List Effect = put_alone c.args.args.now in
    let es = c.args.effects.now in
    let i = c.loop-effect.effect-index in
    let gone : drop i es ≡ [] = drop_all i es (omega arith) in
    λ all fs.
    (λ j. fold (insert_key fact_cmp) (fold (with_at c.args.atoms.now) fs c.loop-effect.places.items) (filter_map added_by (flat_map of (sym gone j)))) ∙ (c.loop-effect.invariant all).1 fs
