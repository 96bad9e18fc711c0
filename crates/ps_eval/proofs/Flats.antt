-- Effects stand for the same where all that they read is the same.
use Rattle.std.proofs.Common.{◌≡◌, if◌then◌else◌, List, [], ◌∷◌, ◌++◌, All, flat_map, map, refl}
use Rattle.std.proofs.lemmas.List.Elements.{All-head, All-tail}
use Rattle.ps_world.specs.CondViews.{cond_tree}
use Rattle.ps_world.specs.declared.names.Name.{Name}
use Rattle.ps_world.specs.declared.actions.Guarded.{Guarded}
use Rattle.ps_world.specs.declared.actions.Guarded.TheVariants.{Plain, When}
use Rattle.ps_world.specs.declared.actions.Spread.{Spread}
use Rattle.ps_world.specs.declared.actions.Spread.TheVariants.{Once, ForAll}
use Rattle.ps_world.specs.declared.domains.Domain.{Domain}
use Rattle.ps_world.specs.declared.known.Knowledge.{Knowledge}
use Rattle.ps_action.specs.Bindings.{bindings}
use Rattle.ps_action.specs.Effects.{flat, flat_guarded, flat_spread}
use Rattle.ps_action.specs.Grounding.{put_effect}
use Rattle.ps_action.specs.Touching.{read_by, read_by_effect, read_by_guarded, read_by_spread}
use Rattle.ps_action.specs.declared.touched.Touched.TheVariants.{Instances}
use Rattle.ps_eval.specs.Laws.{Agree, FlatReadsWhatIsNamed}
use Rattle.ps_eval.proofs.Reading.{in_front, in_rest, same_truth}

module _ (d : Domain) (one other : Knowledge) where
  guarded_same : (env : List Name) (g : Guarded) → All (Agree one other) (read_by_guarded g) → flat_guarded d one env g ≡ flat_guarded d other env g
  guarded_same env (Plain e) h = refl
  guarded_same env (When c es) h =
      let truth = same_truth d one other env (cond_tree c) (in_front (Agree one other) (read_by (cond_tree c)) (flat_map read_by_effect es) h) in
      λ i. if truth i then map (put_effect env) es else []

  guardeds_same : (env : List Name) (gs : List Guarded) → All (Agree one other) (flat_map read_by_guarded gs) → flat_map (flat_guarded d one env) gs ≡ flat_map (flat_guarded d other env) gs
  guardeds_same env [] h = refl
  guardeds_same env (g ∷ gs) h =
      let first = guarded_same env g (in_front (Agree one other) (read_by_guarded g) (flat_map read_by_guarded gs) h) in
      let rest = guardeds_same env gs (in_rest (Agree one other) (read_by_guarded g) (flat_map read_by_guarded gs) h) in
      λ i. first i ++ rest i

  spread_same : (s : Spread) → All (Agree one other) (read_by_spread s) → flat_spread d one s ≡ flat_spread d other s
  spread_same (Once g) h = guarded_same [] g h
  spread_same (ForAll ps gs) h =
      let is = All-head (Agree one other) Instances (flat_map read_by_guarded gs) h in
      let part = All-tail (Agree one other) Instances (flat_map read_by_guarded gs) h in
      λ i. flat_map (λ env. guardeds_same env gs part i) (bindings d (is i) ps [])

  pub flats_same : (es : List Spread) → All (Agree one other) (flat_map read_by_spread es) → flat d one es ≡ flat d other es
  flats_same [] h = refl
  flats_same (s ∷ es) h =
      let first = spread_same s (in_front (Agree one other) (read_by_spread s) (flat_map read_by_spread es) h) in
      let rest = flats_same es (in_rest (Agree one other) (read_by_spread s) (flat_map read_by_spread es) h) in
      λ i. first i ++ rest i

pub flat_reads_what_is_named : FlatReadsWhatIsNamed
flat_reads_what_is_named d one other es h = flats_same d one other es h
