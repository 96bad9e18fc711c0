-- What an attempt at a step comes to.
use Rattle.std.proofs.Common.{◌≡◌, Bool, true, false, List, Option, Some, None, option_map, is_some, Result, Ok, if◌then◌else◌, refl, ap, ◌∙◌, sym}
use Rattle.std.specs.List.Sorted.{IsStrictlySortedBy}
use Rattle.std.specs.Result.{result_ok}
use Rattle.ps_world.specs.Facts.{fact_cmp}
use Rattle.ps_world.specs.declared.actions.Effect.{Effect}
use Rattle.ps_world.specs.declared.domains.Domain.{Domain}
use Rattle.ps_world.specs.declared.known.Knowledge.{Knowledge}
use Rattle.ps_action.specs.Effects.{effect, fault_of_flat, flat, made, values_of_flat}
use Rattle.ps_action.specs.Refusals.{unless}
use Rattle.ps_action.specs.Plans.{and_then, step_of, where_true}
use Rattle.ps_action.specs.Truth.{all_true}
use Rattle.ps_action.specs.declared.acts.GroundAction.{GroundAction}
use Rattle.ps_action.specs.declared.refusals.EffectRefusal.{EffectRefusal}
use Rattle.ps_action.specs.declared.refusals.PlanRefusal.{PlanRefusal}
use Rattle.ps_action.specs.declared.refusals.PlanRefusal.TheVariants.{StartFalse, StartEffect, OverAllFalse, EndFalse, EndEffect}
use Rattle.ps_problem.specs.Patches.{changed}
use Rattle.ps_problem.specs.declared.change.Change.{Change}
use Rattle.ps_expand.specs.Attempts.{finished, unless_fault}
use Rattle.ps_expand.specs.Joining.{joined}
use Rattle.ps_expand.proofs.Joined.{joined_made}

abbrev Next : Type 0
Next = Knowledge → Result Knowledge PlanRefusal

module _ (s : PlanRefusal) (w : EffectRefusal → PlanRefusal) (during : Knowledge) (next : Next) where
  false_at : (a : Bool) (f : Option EffectRefusal) → a ≡ false → result_ok (where_true a s (and_then w (unless f during) next)) ≡ None
  false_at true f e = absurd (cc)
  false_at false f e = refl

  faulty_at : (a : Bool) (f : Option EffectRefusal) → is_some f ≡ true → result_ok (where_true a s (and_then w (unless f during) next)) ≡ None
  faulty_at true (Some r) e = refl
  faulty_at true None e = absurd (cc)
  faulty_at false f e = refl

  begun_at : (a : Bool) (f : Option EffectRefusal) → a ≡ true → is_some f ≡ false → result_ok (where_true a s (and_then w (unless f during) next)) ≡ result_ok (next during)
  begun_at true None e h = refl
  begun_at true (Some r) e h = absurd (cc)
  begun_at false f e h = absurd (cc)

ended_at : (k : Knowledge) (s t : PlanRefusal) (w : EffectRefusal → PlanRefusal) (c : Change) (m : Knowledge) (a b : Bool) (f : Option EffectRefusal) → changed k c ≡ m → option_map (changed k) (if a then (if b then unless_fault f (Some c) else None) else None) ≡ result_ok (where_true a s (where_true b t (and_then w (unless f m) Ok)))
ended_at k s t w c m true true None e = ap (λ (l : Knowledge). Some l) e
ended_at k s t w c m true true (Some r) e = refl
ended_at k s t w c m true false f e = refl
ended_at k s t w c m false b f e = refl

module _ (d : Domain) (k : Knowledge) (g : GroundAction) where
  -- the effects of its start, and what is known after them
  abbrev pub starts : List Effect
  starts = flat d k g.effects.at_start

  abbrev during : Knowledge
  during = made k starts (values_of_flat k starts)

  -- the effects of its end
  abbrev ends : List Effect
  ends = flat d during g.effects.at_end

  abbrev rest : Next
  rest during =
      where_true (all_true d during g.conditions.over_all) (OverAllFalse 0)
      (where_true (all_true d during g.conditions.at_end) (EndFalse 0)
      (and_then (EndEffect 0) (effect d during g.effects.at_end) Ok))

  pub start_false : all_true d k g.conditions.at_start ≡ false → result_ok (step_of d k 0 g) ≡ None
  start_false e = false_at (StartFalse 0) (StartEffect 0) during rest (all_true d k g.conditions.at_start) (fault_of_flat k starts) e

  pub start_faulty : is_some (fault_of_flat k starts) ≡ true → result_ok (step_of d k 0 g) ≡ None
  start_faulty e = faulty_at (StartFalse 0) (StartEffect 0) during rest (all_true d k g.conditions.at_start) (fault_of_flat k starts) e

  -- the change of a start that doesn't fail and of what follows
  pub goes_on : all_true d k g.conditions.at_start ≡ true → is_some (fault_of_flat k starts) ≡ false → IsStrictlySortedBy fact_cmp k.facts → option_map (changed k) (finished d k g starts (values_of_flat k starts)) ≡ result_ok (step_of d k 0 g)
  goes_on e h sorted =
      ended_at k (OverAllFalse 0) (EndFalse 0) (EndEffect 0) (joined starts (values_of_flat k starts) ends (values_of_flat during ends)) (made during ends (values_of_flat during ends)) (all_true d during g.conditions.over_all) (all_true d during g.conditions.at_end) (fault_of_flat during ends) (joined_made k starts (values_of_flat k starts) ends (values_of_flat during ends) sorted)
      ∙ sym (begun_at (StartFalse 0) (StartEffect 0) during rest (all_true d k g.conditions.at_start) (fault_of_flat k starts) e h)
