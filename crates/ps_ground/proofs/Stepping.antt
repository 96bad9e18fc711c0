-- Steps from state to state are those of what is known in them.
use Rattle.std.proofs.Common.{◌≡◌, ℕ, ◌+◌, Bool, true, false, Option, Some, None, option_map, option_and_then, Result, Ok, Err, List, [], ◌∷◌, ◌++◌, refl, ap, ◌∙◌}
use Rattle.std.specs.Result.{result_ok}
use Rattle.ps_world.specs.declared.numbers.Num.{Num}
use Rattle.ps_world.specs.declared.facts.Fact.{Fact}
use Rattle.ps_world.specs.declared.actions.Effect.{Effect}
use Rattle.ps_world.specs.declared.actions.Spread.{Spread}
use Rattle.ps_world.specs.declared.domains.Domain.{Domain}
use Rattle.ps_world.specs.declared.known.Knowledge.{Knowledge}
use Rattle.ps_action.specs.declared.acts.Act.{Act}
use Rattle.ps_action.specs.declared.acts.GroundAction.{GroundAction}
use Rattle.ps_action.specs.declared.refusals.EffectRefusal.{EffectRefusal}
use Rattle.ps_action.specs.declared.refusals.GroundRefusal.{GroundRefusal}
use Rattle.ps_action.specs.declared.refusals.PlanRefusal.{PlanRefusal}
use Rattle.ps_action.specs.declared.refusals.PlanRefusal.TheVariants.{Ground, StartFalse, StartEffect, OverAllFalse, EndFalse, EndEffect}
use Rattle.ps_action.specs.Effects.{effect, fault_of_flat, flat, made, values_of_flat}
use Rattle.ps_action.specs.Refusals.{unless}
use Rattle.ps_action.specs.Grounding.{ground_act}
use Rattle.ps_action.specs.Plans.{after_steps, and_then, step, step_of, where_true}
use Rattle.ps_action.specs.Truth.{all_true}
use Rattle.ps_ground.specs.States.{State, at, changed, ended, state_of, stepped, where_so}

module _ (k : Knowledge) where
  effect_at : (s : State) (es : List Effect) (ready : List (Fact × Num)) (fault : Option EffectRefusal) → result_ok (unless fault (made (at k s) es ready)) ≡ option_map (at k) (option_map state_of (result_ok (unless fault (made (at k s) es ready))))
  effect_at s es ready None = refl
  effect_at s es ready (Some fault) = refl

  -- effects change facts and values alone
  effect_changes : (d : Domain) (s : State) (es : List Spread) → result_ok (effect d (at k s) es) ≡ option_map (at k) (changed d k s es)
  effect_changes d s es =
      let now = flat d (at k s) es in
      effect_at s now (values_of_flat (at k s) now) (fault_of_flat (at k s) now)

module _ {E : Type 0} (k : Knowledge) where
  where_at : (b : Bool) (why : E) (r : Result Knowledge E) (o : Option State) → result_ok r ≡ option_map (at k) o → result_ok (where_true b why r) ≡ option_map (at k) (where_so b o)
  where_at true why r o e = e
  where_at false why r o e = refl

  then_at : {F : Type 0} (why : F → E) (r : Result Knowledge F) (o : Option State) (next : Knowledge → Result Knowledge E) (more : State → Option State) → result_ok r ≡ option_map (at k) o → ((s : State) → result_ok (next (at k s)) ≡ option_map (at k) (more s)) → result_ok (and_then why r next) ≡ option_map (at k) (option_and_then more o)
  then_at why (Err f) None next more e h = refl
  then_at why (Err f) (Some s) next more e h = absurd (cc)
  then_at why (Ok a) None next more e h = absurd (cc)
  then_at why (Ok a) (Some s) next more e h =
      let same : a ≡ at k s = cc in
      ap (λ l. result_ok (next l)) same ∙ h s

  abbrev done : Knowledge → Result Knowledge E
  done l = Ok l

  ok_after : {F : Type 0} (why : F → E) (r : Result Knowledge F) → result_ok (and_then why r done) ≡ result_ok r
  ok_after why (Err f) = refl
  ok_after why (Ok a) = refl

module _ (d : Domain) (k : Knowledge) where
  ok_at : (o : Option State) → option_and_then (λ s. Some s) o ≡ o
  ok_at None = refl
  ok_at (Some s) = refl

  then_where : (b : Bool) (o : Option State) (f : State → Option State) → where_so b (option_and_then f o) ≡ option_and_then f (where_so b o)
  then_where true o f = refl
  then_where false o f = refl

  ended_at : (s : State) (i : ℕ) (g : GroundAction) → result_ok (where_true (all_true d (at k s) g.conditions.over_all) (OverAllFalse i) (where_true (all_true d (at k s) g.conditions.at_end) (EndFalse i) (and_then (EndEffect i) (effect d (at k s) g.effects.at_end) (λ l. Ok l)))) ≡ option_map (at k) (ended d k g s)
  ended_at s i g =
      where_at k (all_true d (at k s) g.conditions.over_all) (OverAllFalse i) _ (where_so (all_true d (at k s) g.conditions.at_end) (changed d k s g.effects.at_end)) (where_at k (all_true d (at k s) g.conditions.at_end) (EndFalse i) _ (changed d k s g.effects.at_end) (ok_after k (EndEffect i) (effect d (at k s) g.effects.at_end) ∙ effect_changes k d s g.effects.at_end))

  -- a step of a ground action, whatever its place
  pub stepped_at : (s : State) (i : ℕ) (g : GroundAction) → result_ok (step_of d (at k s) i g) ≡ option_map (at k) (stepped d k s g)
  stepped_at s i g =
      where_at k (all_true d (at k s) g.conditions.at_start) (StartFalse i) _ (option_and_then (ended d k g) (changed d k s g.effects.at_start)) (then_at k (StartEffect i) (effect d (at k s) g.effects.at_start) (changed d k s g.effects.at_start) (λ during. where_true (all_true d during g.conditions.over_all) (OverAllFalse i) (where_true (all_true d during g.conditions.at_end) (EndFalse i) (and_then (EndEffect i) (effect d during g.effects.at_end) (λ l. Ok l)))) (ended d k g) (effect_changes k d s g.effects.at_start) (λ t. ended_at t i g))
      ∙ ap (option_map (at k)) (then_where (all_true d (at k s) g.conditions.at_start) (changed d k s g.effects.at_start) (ended d k g))

  -- the state after an act, if it can be grounded and no part of its step fails
  abbrev pub next : State → Act → Option State
  next s act = option_and_then (stepped d k s) (result_ok (ground_act d k.instances act))

  grounded_at : (s : State) (i : ℕ) (why : GroundRefusal → PlanRefusal) (r : Result GroundAction GroundRefusal) → result_ok (and_then why r (step_of d (at k s) i)) ≡ option_map (at k) (option_and_then (stepped d k s) (result_ok r))
  grounded_at s i why (Ok g) = stepped_at s i g
  grounded_at s i why (Err r) = refl

  pub next_at : (s : State) (i : ℕ) (act : Act) → result_ok (step d (at k s) i act) ≡ option_map (at k) (next s act)
  next_at s i act = grounded_at s i (Ground i) (ground_act d k.instances act)

  -- the state after these acts
  abbrev pub run : State → List Act → Option State
  run s [] = Some s
  run s (act ∷ acts) = option_and_then (λ t. run t acts) (next s act)

  pub run_at : (acts : List Act) (s : State) (i : ℕ) → result_ok (after_steps d (at k s) i acts) ≡ option_map (at k) (run s acts)
  run_at [] s i = refl
  run_at (act ∷ acts) s i = then_at k (λ r. r) (step d (at k s) i act) (next s act) (λ l. after_steps d l (i + 1) acts) (λ t. run t acts) (next_at s i act) (λ t. run_at acts t (i + 1))

  run_then : (o : Option State) (acts : List Act) (act : Act) (f g : State → Option State) → ((t : State) → f t ≡ option_and_then (λ u. next u act) (g t)) → option_and_then f o ≡ option_and_then (λ u. next u act) (option_and_then g o)
  run_then None acts act f g h = refl
  run_then (Some t) acts act f g h = h t

  -- one more act
  pub run-append : (acts : List Act) (act : Act) (s : State) → run s (acts ++ act ∷ []) ≡ option_and_then (λ t. next t act) (run s acts)
  run-append [] act s = ok_at (next s act)
  run-append (a ∷ acts) act s = run_then (next s a) acts act (λ t. run t (acts ++ act ∷ [])) (λ t. run t acts) (λ t. run-append acts act t)
