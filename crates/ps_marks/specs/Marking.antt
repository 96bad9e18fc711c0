-- What the call answers that finds landmarks.
use Rattle.std.specs.Prelude.{◌≡◌, ℕ, Bool, false, not, Some, nat_le, slice_get, if◌then◌else◌, Result, Ok, Err, IsOk, List, length}
use Rattle.std.specs.Global.{Vec}
use Rattle.std.specs.List.{list_all}
use Rattle.ps_world.specs.Failures.{Gives}
use Rattle.ps_world.specs.Knowledge.{is_known}
use Rattle.ps_world.specs.declared.domains.Domain.{Domain}
use Rattle.ps_world.specs.declared.facts.Fact.{Fact}
use Rattle.ps_world.specs.declared.failures.Failure.{Failure}
use Rattle.ps_world.specs.declared.failures.Failure.TheVariants.{OutOfMemory}
use Rattle.ps_world.specs.declared.known.Knowledge.{Knowledge}
use Rattle.ps_action.specs.Grounding.{all_ground, most_ground}
use Rattle.ps_domain.specs.declared.refusals.GroundAllRefusal.{GroundAllRefusal}
use Rattle.ps_domain.specs.declared.refusals.GroundAllRefusal.TheVariants.{TooMany}
use Rattle.ps_closing.specs.declared.rule.Rule.{Rule}
use Rattle.ps_closing.specs.Closing.{AreClosed, has}
use Rattle.ps_marks.specs.Closures.{closure}
use Rattle.ps_marks.specs.Landmarks.{landmarks, out_of_reach}
use Rattle.ps_marks.specs.Rules.{Mirror, place}

-- whether a place of the goal isn't set by these rules where a fact is left out
pub record IsMissed (atoms : List Fact) (start : List Bool) (rules : List Rule) (goal : List ℕ) (f : Fact) (missed : Bool) : Type 0 where
  pub flags : List Bool
  pub closed : AreClosed (place atoms f) rules start flags
  pub told : missed ≡ not (list_all (has flags) goal)

-- from these flags rules give those of the closure without a fact, if that isn't known
abbrev pub CloseWithout : Domain → Knowledge → List Fact → List Bool → List Rule → Type 0
CloseWithout d k atoms start rules =
    (f : Fact) → is_known k f ≡ false → (flags : List Bool) → AreClosed (place atoms f) rules start flags → Mirror atoms flags (closure d k (Some f))

-- the landmarks, unless there are more ground actions than may be listed
abbrev pub marked : Domain → Knowledge → Result (List Fact) GroundAllRefusal
marked d k = if nat_le (length (all_ground d k.instances)) most_ground then Ok (landmarks d k) else Err TooMany

-- The answer is the landmarks, or that there are too many ground actions, unless memory ran out, which it does only where there aren't.
pub record GivesLandmarks (d : Domain) (k : Knowledge) (r : Result (Vec Fact) (Failure GroundAllRefusal)) : Type 0 where
  pub gives : Gives (λ marks. marks.items) r (marked d k)
  pub memory : r ≡ Err OutOfMemory → IsOk (marked d k)

-- whether the place of a fact isn't set
pub record IsUnset (atoms : List Fact) (flags : List Bool) (f : Fact) (unset : Bool) : Type 0 where
  pub at : ℕ
  pub stands : slice_get atoms at ≡ Some f
  pub told : unset ≡ not (has flags at)

-- what is out of reach, unless there are more ground actions than may be listed
abbrev pub unreached : Domain → Knowledge → Result (List Fact) GroundAllRefusal
unreached d k = if nat_le (length (all_ground d k.instances)) most_ground then Ok (out_of_reach d k) else Err TooMany

-- The answer is what is out of reach, or that there are too many ground actions, unless memory ran out, which it does only where there aren't.
pub record GivesUnreached (d : Domain) (k : Knowledge) (r : Result (Vec Fact) (Failure GroundAllRefusal)) : Type 0 where
  pub gives : Gives (λ facts. facts.items) r (unreached d k)
  pub memory : r ≡ Err OutOfMemory → IsOk (unreached d k)
