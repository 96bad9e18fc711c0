-- What is printed of entries is read back.
use Rattle.std.specs.Prelude.{◌≡◌, ℕ, List, length, map, IsTrue, All}
use Rattle.ps_world.specs.Names.{Table}
use Rattle.ps_machine.specs.Texts.{entry_line}
use Rattle.ps_machine.specs.declared.inputs.Input.{Input}
use Rattle.ps_machine.specs.declared.journal.Event.{Event}
use Rattle.ps_machine.specs.declared.journal.Event.TheVariants as event
use Rattle.ps_machine.specs.declared.journal.Entry.{Entry}
use Rattle.ps_rules.specs.Heads.{Head, IsHead}
use Rattle.ps_rules.specs.Journal.{text_with}
use Rattle.ps_rules.specs.Sound.{IsSound}
use Rattle.ps_rules.specs.History.{IsHistory}
use Rattle.ps_text.specs.Names.{AreNames, Keeps}
use Rattle.ps_script_laws.specs.Sayable.{IsEditOf, IsQueryOf}
use Rattle.ps_entries.specs.EntryLines.{IsEntryLine}
use Rattle.ps_entries.specs.Forms.{is_entry}
use Rattle.ps_entries.specs.Journals.{IsFault, IsJournal}
use Rattle.ps_entries.specs.declared.journals.JournalRefusal.{JournalRefusal}

-- an edit or a query that stands in an event is one that a line of the terminal can say
abbrev pub IsSayable : Table → Event → Type 0
IsSayable names (event.Edit who change) = IsEditOf names change
IsSayable names (event.Ask q) = IsQueryOf names q
IsSayable names e = Unit {0}

-- an entry in form, whose names stand in the table; what a line says in it a line can say
pub record IsEntryOf (names : Table) (e : Entry) : Type 0 where
  pub in_form : IsTrue (is_entry (length names) e)
  pub sayable : IsSayable names e.what

-- a line is this entry's, with a table before it, and the table after it keeps these names
pub record IsReadAs (names table : Table) (line : List ℕ) (e : Entry) : Type 0 where
  pub after : Table
  pub read : IsEntryLine table line e after
  pub are_names : AreNames after
  pub keeps : Keeps names after

-- What is printed of an entry is read as that entry's line, with a table that keeps the names it was printed with, and so does the table
-- after it.
abbrev pub PrintedEntriesAreRead : Type 0
PrintedEntriesAreRead = (names table : Table) (e : Entry) → AreNames names → AreNames table → Keeps names table → IsEntryOf names e → IsReadAs names table (entry_line names e) e

-- a text is a journal with this head and of these entries, each with its line, with a table before it
pub record IsJournalOf (table : Table) (text : List ℕ) (head : Head) (es : List Entry) : Type 0 where
  pub numbered : List (ℕ × Entry)
  pub after : Table
  pub read : IsJournal table text head numbered after
  pub same : map (λ x. x.1) numbered ≡ es

-- The text of a history of a sound input, in either version, is read as a journal with its head and of its entries, with a table that keeps
-- the names it was printed with, where the entries are in form.
abbrev pub PrintedJournalsAreRead : Type 0
PrintedJournalsAreRead =
    (head : Head) (names table : Table) (i : Input) (es : List Entry) → IsHead head → AreNames names → AreNames table → Keeps names table
    → IsSound i → IsHistory i es → All (IsEntryOf names) es → IsJournalOf table (text_with head names i es) head es

-- A text is a journal with one head and of one list of entries at most, each with its line, with one table after it.
abbrev pub TextsAreOneJournal : Type 0
TextsAreOneJournal =
    (table after other : Table) (text : List ℕ) (g h : Head) (es fs : List (ℕ × Entry)) → AreNames table
    → IsJournal table text g es after → IsJournal table text h fs other → (g ≡ h) × ((es ≡ fs) × (after ≡ other))

-- Two histories of sound inputs that are printed with the same text, in either version, have the same head and are the same, where their
-- entries are in form.
abbrev pub HistoriesArePrintedApart : Type 0
HistoriesArePrintedApart =
    (g h : Head) (names : Table) (i j : Input) (es fs : List Entry) → IsHead g → IsHead h → AreNames names → IsSound i → IsSound j
    → IsHistory i es → IsHistory j fs → All (IsEntryOf names) es → All (IsEntryOf names) fs
    → text_with g names i es ≡ text_with h names j fs → (g ≡ h) × (es ≡ fs)

-- A text that is a journal has no fault.
abbrev pub JournalsHaveNoFault : Type 0
JournalsHaveNoFault =
    (table after : Table) (text : List ℕ) (head : Head) (es : List (ℕ × Entry)) (r : JournalRefusal) → AreNames table
    → IsJournal table text head es after → ¬ (IsFault table text r)

-- A text has one fault at most.
abbrev pub FaultsAreOne : Type 0
FaultsAreOne = (table : Table) (text : List ℕ) (r s : JournalRefusal) → AreNames table → IsFault table text r → IsFault table text s → r ≡ s
