-- What lines and journals are read as.
use Rattle.std.specs.Prelude.{◌≡◌, ℕ, List}
use Rattle.ps_world.specs.Names.{Table}
use Rattle.ps_machine.specs.declared.journal.Entry.{Entry}
use Rattle.ps_text.specs.Names.{AreNames}
use Rattle.ps_entries.specs.EntryLines.{IsEntryLine}

-- A line is one entry's at most, with one table after it.
abbrev pub LinesAreOneEntry : Type 0
LinesAreOneEntry = (names : Table) (line : List ℕ) (e f : Entry) (after other : Table) → AreNames names → IsEntryLine names line e after → IsEntryLine names line f other → (e ≡ f) × (after ≡ other)
