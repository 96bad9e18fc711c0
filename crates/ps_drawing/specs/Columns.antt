-- The columns of the text form: which byte stands in a column of a row.
use Rattle.std.specs.Prelude.{ℕ, zero, suc, ◌+◌, ◌-◌, ◌/◌, min, Bool, ◌&&◌, nat_le, if◌then◌else◌, ◌==◌, List, [], ◌∷◌}
use Rattle.ps_picture.specs.declared.rows.Bar.{Bar}
use Rattle.ps_picture.specs.declared.rows.Mark.{Mark}
use Rattle.ps_picture.specs.declared.rows.Row.{Row}
use Rattle.ps_drawing.specs.Signs.{ending_byte, sign_byte}
use Rattle.ps_drawing.specs.declared.columns.Span.{Span}

-- how many columns the lines of a plan have
unfoldable pub columns : ℕ
columns = 70

-- how many lines stand in one column: as few as let all have one
abbrev pub step_of : Span → ℕ
step_of s = (s.to - s.from) / columns + 1

-- the column of a line
abbrev pub column_of : Span → ℕ → ℕ
column_of s line = min ((line - s.from) / step_of s) (columns - 1)

-- the byte of the first bar that ends in a column, else this
abbrev pub end_at : Span → ℕ → List Bar → ℕ → ℕ
end_at s k [] other = other
end_at s k (b ∷ bs) other = if column_of s b.to == k then ending_byte b.ending else end_at s k bs other

-- the byte of the first mark in a column, else this
abbrev pub mark_at : Span → ℕ → List Mark → ℕ → ℕ
mark_at s k [] other = other
mark_at s k (m ∷ ms) other = if column_of s m.at == k then sign_byte m.sign else mark_at s k ms other

-- a bar goes over a column
abbrev pub covers : Span → ℕ → Bar → Bool
covers s k b = nat_le (column_of s b.from) k && nat_le k (column_of s b.to)

-- the byte of the first bar that goes over a column, else this
abbrev pub bar_at : Span → ℕ → List Bar → ℕ → ℕ
bar_at s k [] other = other
bar_at s k (b ∷ bs) other = if covers s k b then ending_byte b.ending else bar_at s k bs other

-- the byte in a column of a row: that of a bar that ends there, else of a mark, else of a bar that goes over it, else
-- a space
abbrev pub cell_of : Span → Row → ℕ → ℕ
cell_of s row k = end_at s k row.bars (mark_at s k row.marks (bar_at s k row.bars 32))

-- so many columns of a row, from one on
abbrev pub cells_from : Span → Row → ℕ → ℕ → List ℕ
cells_from s row k zero = []
cells_from s row k (suc n) = cell_of s row k ∷ cells_from s row (suc k) n
