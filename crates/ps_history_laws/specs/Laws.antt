-- The entries of histories are read back from their texts, and what is read can be said.
use Rattle.std.specs.Prelude.{◌≡◌, ℕ, Ok, List, length, map, All}
use Rattle.ps_world.specs.Names.{Table}
use Rattle.ps_world.specs.declared.domains.Domain.{Domain}
use Rattle.ps_action.specs.declared.acts.PlanStep.{PlanStep}
use Rattle.ps_machine.specs.Texts.{entry_line}
use Rattle.ps_machine.specs.declared.inputs.Input.{Input}
use Rattle.ps_machine.specs.declared.inputs.Command.TheVariants.{RunPlan}
use Rattle.ps_machine.specs.declared.inputs.Line.{Line}
use Rattle.ps_machine.specs.declared.inputs.Line.TheVariants.{Good}
use Rattle.ps_machine.specs.declared.members.Member.{Member}
use Rattle.ps_machine.specs.declared.journal.Entry.{Entry}
use Rattle.ps_rules.specs.History.{IsHistory}
use Rattle.ps_rules.specs.Heads.{Head, IsHead}
use Rattle.ps_rules.specs.Journal.{text_with}
use Rattle.ps_rules.specs.Sound.{IsSound}
use Rattle.ps_text.specs.Names.{AreNames, Keeps}
use Rattle.ps_script.specs.Lines.{IsRead}
use Rattle.ps_script.specs.declared.reading.Read.TheVariants as read
use Rattle.ps_plan.specs.PlanText.{IsPlan}
use Rattle.ps_members.specs.Members.{IsMember}
use Rattle.ps_pddl.specs.Reading as domain
use Rattle.ps_entry_laws.specs.Laws.{IsEntryOf, IsJournalOf}
use Rattle.ps_history_laws.specs.Entries.{first_entry, IsHeld}
use Rattle.ps_history_laws.specs.Inputs.{IsSayableDomain, IsSayableInput, IsSayableLine, IsSayableMember}

-- Entries are a history of a sound input of which all that stands in them can be said, and their numbers fit the types of their fields.
pub record IsSaidHistory (names : Table) (i : Input) (es : List Entry) : Type 0 where
  pub sound : IsSound i
  pub sayable : IsSayableInput names i
  pub history : IsHistory i es
  pub held : All IsHeld es

-- An entry has the same line with the first of the causes that print as its own does.
abbrev pub FirstEntriesPrintAlike : Type 0
FirstEntriesPrintAlike = (names : Table) (e : Entry) → entry_line names (first_entry e) ≡ entry_line names e

-- The entries of such a history, each with the first of the causes that print as its own does, are in form, their names stand in the
-- table, and what a line says in them a line can say.
abbrev pub HistoriesAreInForm : Type 0
HistoriesAreInForm =
    (names : Table) (i : Input) (es : List Entry) → IsSaidHistory names i es → All (λ e. IsEntryOf names (first_entry e)) es

-- The text of such a history, in either version, is read as a journal with its head and of its entries, each with its line and with the
-- first of the causes that print as its own does, with a table that keeps the names that the text was printed with.
abbrev pub PrintedHistoriesAreRead : Type 0
PrintedHistoriesAreRead =
    (head : Head) (names table : Table) (i : Input) (es : List Entry) → IsHead head → AreNames names → AreNames table → Keeps names table
    → IsSaidHistory names i es → IsJournalOf table (text_with head names i es) head (map first_entry es)

-- Two such histories that are printed with the same text, in either version, have the same head and the same entries, but for causes that
-- print alike.
abbrev pub PrintedHistoriesAreOne : Type 0
PrintedHistoriesAreOne =
    (g h : Head) (names : Table) (i j : Input) (es fs : List Entry) → IsHead g → IsHead h → AreNames names → IsSaidHistory names i es
    → IsSaidHistory names j fs → text_with g names i es ≡ text_with h names j fs → (g ≡ h) × (map first_entry es ≡ map first_entry fs)

-- ---- what is read

-- A line that is read, with a table of names before it, can be said with the table after it.
abbrev pub LinesAreSayable : Type 0
LinesAreSayable =
    (table : Table) (bytes : List ℕ) (line : Line) (after : Table)
    → AreNames table → IsRead table bytes (read.Line line) after → IsSayableLine after line

-- A run of a plan whose text is read can be said with the table after the text.
abbrev pub PlansAreSayable : Type 0
PlansAreSayable =
    (table : Table) (bytes : List ℕ) (steps : List PlanStep) (after : Table)
    → IsPlan table bytes steps after → IsSayableLine after (Good (RunPlan (Ok steps)))

-- A member that is read, with a table of names before it, can be said with the table after it.
abbrev pub MembersAreSayable : Type 0
MembersAreSayable =
    (d : Domain) (table : Table) (bytes : List ℕ) (m : Member) (after : Table)
    → AreNames table → IsMember d table bytes (Ok m) after → IsSayableMember after m

-- Of a domain that is read, with a table of names before it, the constants and acts of each action can be said with the table after it.
abbrev pub DomainsAreSayable : Type 0
DomainsAreSayable =
    (table : Table) (bytes : List ℕ) (d : Domain) (after : Table)
    → AreNames table → domain.IsRead table bytes (Ok d) after → IsSayableDomain (length after) d

-- An input of which all can be said with a table can be said so with each table that keeps its names.
abbrev pub SayableInputsStaySo : Type 0
SayableInputsStaySo = (names table : Table) (i : Input) → Keeps names table → IsSayableInput names i → IsSayableInput table i
