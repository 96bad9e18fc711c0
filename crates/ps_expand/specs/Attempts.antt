-- The change that a step of a ground action makes.
use Rattle.std.specs.Prelude.{if◌then◌else◌, Option, Some, None, List}
use Rattle.ps_world.specs.declared.actions.Effect.{Effect}
use Rattle.ps_world.specs.declared.domains.Domain.{Domain}
use Rattle.ps_world.specs.declared.facts.Fact.{Fact}
use Rattle.ps_world.specs.declared.known.Knowledge.{Knowledge}
use Rattle.ps_world.specs.declared.numbers.Num.{Num}
use Rattle.ps_action.specs.Effects.{fault_of_flat, flat, made, values_of_flat}
use Rattle.ps_action.specs.Truth.{all_true}
use Rattle.ps_action.specs.declared.acts.GroundAction.{GroundAction}
use Rattle.ps_action.specs.declared.refusals.EffectRefusal.{EffectRefusal}
use Rattle.ps_problem.specs.declared.change.Change.{Change}
use Rattle.ps_expand.specs.Joining.{joined}

-- this, unless effects have a fault
abbrev pub unless_fault : {A : Type 0} → Option EffectRefusal → Option A → Option A
unless_fault (Some fault) next = None
unless_fault None next = next

-- the change of flat effects at a start with these values, and of those at the end, unless one of these has a fault in what is known during
-- the step
abbrev pub landed_in : Knowledge → List Effect → List (Fact × Num) → List Effect → Option Change
landed_in during starts ready ends = unless_fault (fault_of_flat during ends) (Some (joined starts ready ends (values_of_flat during ends)))

-- the change of flat effects at a start with these values and the end after it, in what is known during the step
abbrev pub finished_in : Domain → Knowledge → GroundAction → List Effect → List (Fact × Num) → Option Change
finished_in d during g starts ready =
    if all_true d during g.conditions.over_all then (
    if all_true d during g.conditions.at_end then landed_in during starts ready (flat d during g.effects.at_end) else None) else None

-- the same from what is known before the step
abbrev pub finished : Domain → Knowledge → GroundAction → List Effect → List (Fact × Num) → Option Change
finished d k g starts ready = finished_in d (made k starts ready) g starts ready
