-- Rows that were reached, each with the places of the ground actions that lead to it.
use Rattle.std.specs.Prelude.{ℕ, List, [], map, slice_index_or}
use Rattle.ps_solve.specs.declared.rows.Row.{Row}

-- the rows
abbrev pub rows_of : List (Row × List ℕ) → List Row
rows_of reached = map (λ r. r.0) reached

-- the places of the ground actions that lead to the row at a place
abbrev pub places_of : List (Row × List ℕ) → ℕ → List ℕ
places_of reached i = slice_index_or (map (λ r. r.1) reached) i []
