-- What scripts and members are read as.
use Rattle.std.specs.Prelude.{◌≡◌, ℕ, ◌≤◌, false, All, List, length}
use Rattle.std.specs.List.{AllPairs}
use Rattle.ps_world.specs.Names.{Table, same_name}
use Rattle.ps_machine.specs.declared.inputs.Input.{Input}
use Rattle.ps_machine.specs.declared.inputs.Line.{Line}
use Rattle.ps_rules.specs.Members.{observers, performers}
use Rattle.ps_rules.specs.Sound.{member_name}
use Rattle.ps_members.specs.Laws.{IsWholeMember}
use Rattle.ps_inputs.specs.Scripts.{IsScript}
use Rattle.ps_inputs.specs.Flats.{Flattened}
use Rattle.ps_inputs.specs.Input.{InputTexts, IsInput}

-- The command lines of a script are read as one list of lines at most, with one table after them.
abbrev pub ScriptsAreReadAsOne : Type 0
ScriptsAreReadAsOne = (first : Table) (script : List Flattened) (lines more : List Line) (after other : Table) → IsScript first script lines after → IsScript first script more other → (lines ≡ more) × (after ≡ other)

-- The members of an input: at most 64 performers and 16 observers, each two of other names, and each of them whole, with jobs that end.
pub record AreSoundMembers (i : Input) : Type 0 where
  pub few_performers : length (performers i) ≤ 64
  pub few_observers : length (observers i) ≤ 16
  pub names_differ : AllPairs (λ m n. same_name (member_name m) (member_name n) ≡ false) i.members
  pub whole : All IsWholeMember i.members

-- The members that texts are read as are sound.
abbrev pub MembersAreSound : Type 0
MembersAreSound = (budget replans : ℕ) (texts : InputTexts) (i : Input) (names : Table) → IsInput budget replans texts i names → AreSoundMembers i
