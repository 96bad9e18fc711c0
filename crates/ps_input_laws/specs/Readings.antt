-- Whatever the texts of an input are, they are read as something.
use Rattle.std.specs.Prelude.{◌≡◌, ◌⊎◌, ℕ, ◌≤◌, List, All, length}
use Rattle.ps_world.specs.Names.{Table}
use Rattle.ps_world.specs.declared.domains.Domain.{Domain}
use Rattle.ps_machine.specs.declared.inputs.Input.{Input}
use Rattle.ps_machine.specs.declared.inputs.Line.{Line}
use Rattle.ps_script.specs.Kinds.{IsKind}
use Rattle.ps_script.specs.declared.kinds.Kind.TheVariants.{Command}
use Rattle.ps_words.specs.Words.{Request, most_budget, most_replans}
use Rattle.ps_inputs.specs.Flats.{Flat, Flattened, script_in}
use Rattle.ps_inputs.specs.Flats.Flattened.{plain, with_plan, too_deep}
use Rattle.ps_inputs.specs.Input.{InputTexts, IsBegun, IsInput, IsNoDomain, Material, reading_of, texts_in, texts_of}
use Rattle.ps_inputs.specs.Members.{AreCrowd, IsNoMember, IsTwice}
use Rattle.ps_inputs.specs.Reading.{Texts, most_lines}
use Rattle.ps_inputs.specs.Reading.Reading.{gives}
use Rattle.ps_inputs.specs.Scripts.{IsScript}
use Rattle.ps_input_laws.specs.Laws.{IsReadInput}

-- ---- scripts

-- bytes that stand alone are those of a command line, which says something and names no file
abbrev pub IsCommandLine : Flattened → Type 0
IsCommandLine (plain bytes) = IsKind bytes Command
IsCommandLine (with_plan bytes plan) = Unit {0}
IsCommandLine too_deep = Unit {0}

-- Every script of command lines is read as lines, whatever the table of names.
abbrev pub EveryScriptIsRead : Type 0
EveryScriptIsRead = (first : Table) (script : List Flattened) → All IsCommandLine script → (lines : List Line) × (after : Table) × IsScript first script lines after

-- A script that is read from files consists of command lines, and of no more than a script may have.
abbrev pub FlattenedScriptsAreCommands : Type 0
FlattenedScriptsAreCommands = (files : Texts) (file : List ℕ) (used : List (List ℕ)) (flat : Flat) → script_in files file ≡ gives used flat → All IsCommandLine flat.lines × (length flat.lines ≤ most_lines)

-- ---- inputs

-- What is at fault with the texts of an input: the domain's text is none; or, where that and the script are read, a member's text is none,
-- there are too many members, or one of them has the name of an earlier one.
pub data AreFaulty (texts : InputTexts) : Type 0 where
  no_domain : (cause : List ℕ) → IsNoDomain texts.domain cause → AreFaulty texts
  no_member : (d : Domain) (names : Table) (file cause : List ℕ) → IsBegun texts d names → IsNoMember d names texts.members file cause → AreFaulty texts
  crowd : (d : Domain) (names : Table) → IsBegun texts d names → AreCrowd d names texts.members → AreFaulty texts
  twice : (d : Domain) (names : Table) (name : List ℕ) → IsBegun texts d names → IsTwice d names texts.members name → AreFaulty texts

-- texts are read as an input, whatever its budget and count of plans made anew, or have a fault
abbrev pub AreReadOrFaulty : InputTexts → Type 0
AreReadOrFaulty texts = ((budget replans : ℕ) → (i : Input) × (names : Table) × IsInput budget replans texts i names) ⊎ AreFaulty texts

-- Texts whose script consists of command lines are read as an input or have a fault.
abbrev pub EveryInputIsRead : Type 0
EveryInputIsRead = (texts : InputTexts) → All IsCommandLine texts.script → AreReadOrFaulty texts

-- What the files of a request hold is read as an input or has a fault, whatever their texts are.
abbrev pub EveryRequestIsRead : Type 0
EveryRequestIsRead = (files : Texts) (request : Request) (used : List (List ℕ)) (m : Material) → reading_of files request ≡ gives used m → AreReadOrFaulty (texts_of m)

-- texts are read as an input within the limits of a session, or have a fault
abbrev pub AreLimitedOrFaulty : ℕ → ℕ → InputTexts → Type 0
AreLimitedOrFaulty budget replans texts = ((i : Input) × (names : Table) × IsInput budget replans texts i names × IsReadInput names i) ⊎ AreFaulty texts

-- With a budget and a count of plans made anew that are in their ranges, what the files of an input hold is read as an input within the
-- limits of a session or has a fault, whatever their texts are.
abbrev pub EverySessionIsRead : Type 0
EverySessionIsRead =
    (files : Texts) (domain script : List ℕ) (members : List (List ℕ)) (budget replans : ℕ) (used : List (List ℕ)) (texts : InputTexts)
    → 1 ≤ budget → budget ≤ most_budget → replans ≤ most_replans → texts_in files domain script members ≡ gives used texts → AreLimitedOrFaulty budget replans texts
