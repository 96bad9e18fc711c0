-- What the call that makes effects as they stand answers.
use Rattle.std.specs.Prelude.{◌≡◌, ◌≢◌, ◌↔◌, Bool, IsTrue, Result, IfOk, OnErr, List}
use Rattle.ps_world.specs.Failures.{Gives}
use Rattle.ps_world.specs.declared.actions.Effect.{Effect}
use Rattle.ps_world.specs.declared.failures.Failure.{Failure}
use Rattle.ps_world.specs.declared.known.Knowledge.{Knowledge}
use Rattle.ps_action.specs.Effects.{effect_flat}
use Rattle.ps_action.specs.declared.refusals.EffectRefusal.{EffectRefusal}

-- The answer to effects that stand for themselves: what they give is known afterwards, or nothing has changed; and memory may run out.
pub record MakesFlat (es : List Effect) (old : Knowledge) (r : Result Bool (Failure EffectRefusal)) (new : Knowledge) : Type 0 where
  pub gives : Gives (λ changed. new) r (effect_flat old es)
  pub changed : IfOk r (λ changed. IsTrue changed ↔ (new ≢ old))
  pub kept : OnErr r (new ≡ old)
