-- What the calls that ground acts answer.
use Rattle.std.specs.Prelude.{◌≡◌, nat_le, if◌then◌else◌, Result, Ok, Err, IsOk, List, length}
use Rattle.std.specs.Global.{Vec}
use Rattle.ps_world.specs.Failures.{Gives}
use Rattle.ps_world.specs.declared.names.Name.{Name}
use Rattle.ps_world.specs.declared.domains.Domain.{Domain}
use Rattle.ps_world.specs.declared.failures.Failure.{Failure}
use Rattle.ps_world.specs.declared.failures.Failure.TheVariants.{OutOfMemory}
use Rattle.ps_action.specs.Grounding.{ground_act, all_ground, most_ground}
use Rattle.ps_action.specs.declared.acts.Act.{Act}
use Rattle.ps_action.specs.declared.acts.GroundAction.{GroundAction}
use Rattle.ps_action.specs.declared.refusals.GroundRefusal.{GroundRefusal}
use Rattle.ps_domain.specs.declared.refusals.GroundAllRefusal.{GroundAllRefusal}
use Rattle.ps_domain.specs.declared.refusals.GroundAllRefusal.TheVariants.{TooMany}

-- The answer for an act is its ground action, or the first refusal, unless memory ran out, which it does only for an act that isn't refused.
pub record Grounds (d : Domain) (instances : List (Name × Name)) (act : Act) (r : Result GroundAction (Failure GroundRefusal)) : Type 0 where
  pub gives : Gives (λ g. g) r (ground_act d instances act)
  pub memory : r ≡ Err OutOfMemory → IsOk (ground_act d instances act)

-- all ground actions, unless there are more than may be listed
abbrev pub listed : Domain → List (Name × Name) → Result (List GroundAction) GroundAllRefusal
listed d instances = if nat_le (length (all_ground d instances)) most_ground then Ok (all_ground d instances) else Err TooMany

-- The answer for all acts is the list, or that it is too long, unless memory ran out, which it does only for a list that isn't too long.
pub record GroundsAll (d : Domain) (instances : List (Name × Name)) (r : Result (Vec GroundAction) (Failure GroundAllRefusal)) : Type 0 where
  pub gives : Gives (λ all. all.items) r (listed d instances)
  pub memory : r ≡ Err OutOfMemory → IsOk (listed d instances)
