-- What member scripts are read as.
use Rattle.std.specs.Prelude.{◌≡◌, ◌≤◌, ℕ, true, All, List, Result, Ok, length}
use Rattle.ps_world.specs.Names.{Table}
use Rattle.ps_world.specs.declared.domains.Domain.{Domain}
use Rattle.ps_machine.specs.declared.members.Member.{Member}
use Rattle.ps_machine.specs.declared.members.Member.TheVariants as member
use Rattle.ps_machine.specs.declared.members.Performer.{Performer}
use Rattle.ps_machine.specs.declared.members.Unit.{Unit as Task}
use Rattle.ps_members.specs.Forms.{is_finished}
use Rattle.ps_members.specs.Members.{IsMember}
use Rattle.ps_members.specs.Moves.{most_jobs, most_units}
use Rattle.ps_members.specs.declared.refusals.ScriptRefusal.{ScriptRefusal}

-- A text is one member at most, or has one first fault, with one table after it.
abbrev pub TextsAreOneMember : Type 0
TextsAreOneMember = (d : Domain) (table : Table) (bytes : List ℕ) (r s : Result Member ScriptRefusal) (after other : Table) → IsMember d table bytes r after → IsMember d table bytes s other → (r ≡ s) × (after ≡ other)

-- a job of at most 1,000 units, of which the last is `finish`
abbrev pub IsWholeJob : List Task → Type 0
IsWholeJob units = (is_finished units ≡ true) × (length units ≤ most_units)

-- a performer with 1 to 64 such jobs
pub record IsWholePerformer (p : Performer) : Type 0 where
  pub some : 1 ≤ length p.jobs
  pub few : length p.jobs ≤ most_jobs
  pub jobs : All IsWholeJob p.jobs

-- such a performer, or an observer of at most 1,000 units
abbrev pub IsWholeMember : Member → Type 0
IsWholeMember (member.Performer p) = IsWholePerformer p
IsWholeMember (member.Observer o) = length o.units ≤ most_units

-- A member that is read is whole.
abbrev pub MembersAreWhole : Type 0
MembersAreWhole = (d : Domain) (table : Table) (bytes : List ℕ) (m : Member) (after : Table) → IsMember d table bytes (Ok m) after → IsWholeMember m
