-- What lines are read as.
use Rattle.std.specs.Prelude.{◌≡◌, ℕ, List}
use Rattle.ps_world.specs.Names.{Table}
use Rattle.ps_script.specs.Lines.{IsRead}
use Rattle.ps_script.specs.declared.reading.Read.{Read}

-- A line is read as one thing at most, with one table after it.
abbrev pub LinesAreReadAsOne : Type 0
LinesAreReadAsOne = (table : Table) (bytes : List ℕ) (r s : Read) (after other : Table) → IsRead table bytes r after → IsRead table bytes s other → (r ≡ s) × (after ≡ other)
