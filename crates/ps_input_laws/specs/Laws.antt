-- What stands in inputs that are read can be said, and the entries of their histories are read back from their texts.
use Rattle.std.specs.Prelude.{◌≡◌, ℕ, ◌≤◌, List, length, map, All}
use Rattle.ps_world.specs.Names.{Table}
use Rattle.ps_machine.specs.declared.inputs.Input.{Input}
use Rattle.ps_machine.specs.declared.journal.Entry.{Entry}
use Rattle.ps_rules.specs.History.{IsHistory}
use Rattle.ps_rules.specs.Heads.{Head, IsHead}
use Rattle.ps_rules.specs.Journal.{text_with}
use Rattle.ps_text.specs.Names.{AreNames, Keeps}
use Rattle.ps_entry_laws.specs.Laws.{IsJournalOf}
use Rattle.ps_history_laws.specs.Entries.{first_entry, IsHeld}
use Rattle.ps_history_laws.specs.Inputs.{IsSayableInput}
use Rattle.ps_inputs.specs.Input.{InputTexts, IsInput}
use Rattle.ps_inputs.specs.Reading.{most_lines}

-- All that an input which is read has in its entries can be said with the table after its texts.
abbrev pub InputsAreSayable : Type 0
InputsAreSayable =
    (budget replans : ℕ) (texts : InputTexts) (i : Input) (names : Table) → IsInput budget replans texts i names → IsSayableInput names i

-- Texts are read as this input, with this table after them, and it is within the limits of a session: 1 to 200,000 states for a solver, at
-- most 8 plans made anew, and at most 10,000 lines.
pub record IsReadInput (names : Table) (i : Input) : Type 0 where
  pub budget : ℕ
  pub replans : ℕ
  pub texts : InputTexts
  pub read : IsInput budget replans texts i names
  pub some_budget : 1 ≤ budget
  pub bounded_budget : budget ≤ 200000
  pub few_replans : replans ≤ 8
  pub few_lines : length i.lines ≤ most_lines

-- Entries are a history of such an input, and their numbers fit the types of their fields.
pub record IsReadHistory (names : Table) (i : Input) (es : List Entry) : Type 0 where
  pub input : IsReadInput names i
  pub history : IsHistory i es
  pub held : All IsHeld es

-- The text of such a history, printed in either version with the table after its input's texts, is read as a journal with its head and of
-- its entries, each with its line and with the first of the causes that print as its own does, with a table that keeps the names of that
-- one.
abbrev pub ReadHistoriesAreRead : Type 0
ReadHistoriesAreRead =
    (head : Head) (names table : Table) (i : Input) (es : List Entry) → IsHead head → AreNames table → Keeps names table
    → IsReadHistory names i es → IsJournalOf table (text_with head names i es) head (map first_entry es)

-- Two such histories, whose inputs were read with the same table after them, and that are printed with the same text, in either version,
-- have the same head and the same entries, but for causes that print alike.
abbrev pub ReadHistoriesAreOne : Type 0
ReadHistoriesAreOne =
    (g h : Head) (names : Table) (i j : Input) (es fs : List Entry) → IsHead g → IsHead h → IsReadHistory names i es
    → IsReadHistory names j fs → text_with g names i es ≡ text_with h names j fs → (g ≡ h) × (map first_entry es ≡ map first_entry fs)
