-- The text form of a picture, in which a line has 100 columns.
use Rattle.std.specs.Prelude.{ℕ, zero, suc, ◌+◌, ◌-◌, ◌*◌, nat_le, if◌then◌else◌, List, [], ◌++◌, codes, length, take, replicate}
use Rattle.std.specs.Fmt.{decimal}
use Rattle.std.specs.List.{flat_map}
use Rattle.ps_world.specs.Names.{Table}
use Rattle.ps_picture.specs.declared.courses.Course.{Course}
use Rattle.ps_picture.specs.declared.rows.Row.{Row}
use Rattle.ps_drawing.specs.Columns.{cells_from, columns, step_of}
use Rattle.ps_drawing.specs.Signs.{heading_text, label_text}
use Rattle.ps_drawing.specs.declared.columns.Span.{Span}

-- a text cut to so many bytes, with two points at its end where something is missing
unfoldable pub cut : ℕ → List ℕ → List ℕ
cut n text = if nat_le (length text) n then text else take (n - 2) text ++ codes ".."

-- a text in just so many bytes: cut, or filled up with spaces
unfoldable pub fitted : ℕ → List ℕ → List ℕ
fitted n text = cut n text ++ replicate (n - length text) 32

-- what stands before the columns of a row
abbrev pub margin_text : List ℕ → List ℕ
margin_text text = fitted 28 text ++ codes "|"

-- the line of a row
unfoldable pub row_text : Table → Span → Row → List ℕ
row_text names s row = margin_text (label_text names row.label) ++ (cells_from s row 0 columns ++ codes "|\n")

-- the number of a line, if it is of this plan
abbrev pub line_within : Span → ℕ → List ℕ
line_within s line = if nat_le line s.to then decimal line else []

-- the number of the line at each tenth of these columns, of which so many are left
abbrev pub ticks_from : Span → ℕ → ℕ → List ℕ
ticks_from s k zero = []
ticks_from s k (suc n) = fitted 10 (line_within s (s.from + 10 * k * step_of s)) ++ ticks_from s (suc k) n

-- how many ticks there are
unfoldable pub ticks : ℕ
ticks = 7

-- the line that numbers the columns
unfoldable pub axis_text : Span → List ℕ
axis_text s = margin_text [] ++ (ticks_from s 0 ticks ++ codes "|\n")

-- how many lines of the journal stand in a column
unfoldable pub step_text : ℕ → List ℕ
step_text step = codes "; lines a column: " ++ (decimal step ++ codes "\n")

-- the first line of a plan
unfoldable pub title_text : Span → Course → List ℕ
title_text s c = heading_text c ++ step_text (step_of s)

-- the lines of a plan
abbrev pub span_of : Course → Span
span_of c = record { from = c.from; to = c.to }

-- the text of a plan
unfoldable pub course_text : Table → Course → List ℕ
course_text names c =
    let s = span_of c in
    title_text s c ++ (axis_text s
    ++ (flat_map (row_text names s) c.acts ++ (flat_map (row_text names s) c.members ++ codes "\n")))

-- what the signs mean
unfoldable pub legend_text : List ℕ
legend_text =
    codes "bars: = done, x failed, / cancelled, ~ open\nmarks: ? request, o offer, . pass, + confirm, - reject, f feedback, e edit, ! refused edit\n"

-- the text of a picture
abbrev pub picture_text : Table → List Course → List ℕ
picture_text names cs = flat_map (course_text names) cs ++ legend_text
