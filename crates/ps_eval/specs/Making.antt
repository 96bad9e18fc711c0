-- What the call that makes effects answers.
use Rattle.std.specs.Prelude.{◌≡◌, ◌≢◌, ◌↔◌, Bool, IsTrue, Result, IfOk, OnErr, List}
use Rattle.ps_world.specs.Failures.{Gives}
use Rattle.ps_world.specs.declared.actions.Spread.{Spread}
use Rattle.ps_world.specs.declared.domains.Domain.{Domain}
use Rattle.ps_world.specs.declared.failures.Failure.{Failure}
use Rattle.ps_world.specs.declared.known.Knowledge.{Knowledge}
use Rattle.ps_action.specs.Effects.{effect}
use Rattle.ps_action.specs.declared.refusals.EffectRefusal.{EffectRefusal}

-- The answer to effects made in what is known: what `effect` gives is known afterwards, or nothing has changed; and memory may run out.
pub record Makes (d : Domain) (es : List Spread) (old : Knowledge) (r : Result Bool (Failure EffectRefusal)) (new : Knowledge) : Type 0 where
  pub gives : Gives (λ changed. new) r (effect d old es)
  pub changed : IfOk r (λ changed. IsTrue changed ↔ (new ≢ old))
  pub kept : OnErr r (new ≡ old)
