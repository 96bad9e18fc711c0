-- What is read is within the limits of a session.
use Rattle.std.specs.Prelude.{ℕ, ◌≤◌, List, length, Ok}
use Rattle.ps_world.specs.Names.{Table}
use Rattle.ps_world.specs.declared.domains.Domain.{Domain}
use Rattle.ps_action.specs.declared.acts.PlanStep.{PlanStep}
use Rattle.ps_machine.specs.declared.inputs.Line.{Line}
use Rattle.ps_machine.specs.declared.members.Member.{Member}
use Rattle.ps_machine.specs.declared.members.Member.TheVariants as member
use Rattle.ps_rules.specs.Sound.{IsSoundLine, IsSoundObserver, IsSoundPerformer}
use Rattle.ps_plan.specs.PlanText.{IsPlan}
use Rattle.ps_script.specs.Lines.{IsRead}
use Rattle.ps_script.specs.declared.reading.Read.TheVariants as read
use Rattle.ps_members.specs.Members.{IsMember}

-- A line that is read is one that a script may have.
abbrev pub LinesAreSound : Type 0
LinesAreSound =
    (table : Table) (bytes : List ℕ) (line : Line) (after : Table) → IsRead table bytes (read.Line line) after → IsSoundLine line

-- A plan that is read has at most as many steps as a plan of a script may have.
abbrev pub PlansAreShort : Type 0
PlansAreShort =
    (table : Table) (bytes : List ℕ) (steps : List PlanStep) (after : Table) → IsPlan table bytes steps after → length steps ≤ 256

-- a performer or an observer that a session of this domain may have
abbrev pub IsSoundMember : Domain → Member → Type 0
IsSoundMember d (member.Performer p) = IsSoundPerformer d p
IsSoundMember d (member.Observer o) = IsSoundObserver o

-- A member that is read is one that a session of its domain may have.
abbrev pub MembersAreSound : Type 0
MembersAreSound =
    (d : Domain) (table : Table) (bytes : List ℕ) (m : Member) (after : Table)
    → IsMember d table bytes (Ok m) after → IsSoundMember d m
