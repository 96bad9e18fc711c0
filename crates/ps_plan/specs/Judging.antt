-- What the call that judges a plan answers.
use Rattle.std.specs.Prelude.{◌≡◌, Result, Ok, Err, IsOk, List}
use Rattle.ps_world.specs.declared.domains.Domain.{Domain}
use Rattle.ps_world.specs.declared.failures.Failure.{Failure}
use Rattle.ps_world.specs.declared.failures.Failure.TheVariants.{Refused, OutOfMemory}
use Rattle.ps_world.specs.declared.known.Knowledge.{Knowledge}
use Rattle.ps_action.specs.Plans.{judged}
use Rattle.ps_action.specs.declared.acts.Act.{Act}
use Rattle.ps_action.specs.declared.refusals.PlanRefusal.{PlanRefusal}

-- the failure of a part of a step, as that of the plan
abbrev pub failing : {R S : Type 0} → (R → S) → Failure R → Failure S
failing why (Refused refusal) = Refused (why refusal)
failing why OutOfMemory = OutOfMemory

-- a plan is good, or refused for the first thing that fails, or memory ran out, which says nothing
abbrev pub Judges : Domain → Knowledge → List Act → Result (Unit {0}) (Failure PlanRefusal) → Type 0
Judges d k acts (Ok done) = IsOk (judged d k acts)
Judges d k acts (Err (Refused refusal)) = judged d k acts ≡ Err refusal
Judges d k acts (Err OutOfMemory) = Unit {0}
