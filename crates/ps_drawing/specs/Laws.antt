-- Laws of drawings.
use Rattle.std.specs.Prelude.{◌≡◌, ℕ, List, ◌∷◌, ◌++◌}
use Rattle.ps_picture.specs.declared.rows.Bar.{Bar}
use Rattle.ps_picture.specs.declared.rows.Row.{Row}
use Rattle.ps_picture.specs.declared.touches.Ending.{Ending}
use Rattle.ps_drawing.specs.Columns.{cell_of, column_of}
use Rattle.ps_drawing.specs.Signs.{ending_byte}
use Rattle.ps_drawing.specs.declared.columns.Span.{Span}

-- a byte says how some bar ends
abbrev pub IsEndingByte : ℕ → Type 0
IsEndingByte b = (how : Ending) × (b ≡ ending_byte how)

-- No bar vanishes: in the column in which a bar of a row ends it is seen how a bar does, however many lines a column
-- stands for.
abbrev pub NoBarVanishes : Type 0
NoBarVanishes =
    (s : Span) (row : Row) (before after : List Bar) (bar : Bar) → row.bars ≡ before ++ bar ∷ after
    → IsEndingByte (cell_of s row (column_of s bar.to))
