-- The picture as an SVG image: lengths in pixels, from the upper left corner.
use Rattle.std.specs.Prelude.{ℕ, zero, suc, ◌+◌, ◌-◌, ◌*◌, ◌/◌, ◌^◌, min, max, ◌&&◌, nat_le, if◌then◌else◌, ◌==◌, List, [], ◌∷◌, ◌++◌, codes, length}
use Rattle.std.specs.Fmt.{decimal}
use Rattle.std.specs.List.{flat_map, fold}
use Rattle.ps_world.specs.Names.{Table}
use Rattle.ps_picture.specs.declared.courses.Course.{Course}
use Rattle.ps_picture.specs.declared.rows.Bar.{Bar}
use Rattle.ps_picture.specs.declared.rows.Mark.{Mark}
use Rattle.ps_picture.specs.declared.rows.Row.{Row}
use Rattle.ps_drawing.specs.Signs.{ending_word, heading_text, label_text, sign_byte}
use Rattle.ps_drawing.specs.Texts.{cut, span_of, ticks}
use Rattle.ps_drawing.specs.declared.columns.Span.{Span}

-- ---- places

-- the greatest number of 64 bits, at which what grows stands still
abbrev pub most : ℕ
most = 2 ^ 64 - 1

-- so many rows of 20 pixels below a place
unfoldable pub below : ℕ → ℕ → ℕ
below y rows = min (y + min (20 * rows) most) most

-- how many lines a plan has
abbrev pub lines_in : Span → ℕ
lines_in s = s.to - s.from + 1

-- how wide they are drawn: 16 pixels a line, but 700 at most
unfoldable pub width_of : Span → ℕ
width_of s = min (16 * lines_in s) 700

-- where a line begins
unfoldable pub place_of : Span → ℕ → ℕ
place_of s line = 230 + (line - s.from) * width_of s / lines_in s

-- ---- elements

-- a byte as XML text: no mark-up, and nothing but printable bytes
unfoldable pub escaped_byte : ℕ → List ℕ
escaped_byte b =
    if b == 38 then codes "&amp;"
    else if b == 60 then codes "&lt;"
    else if b == 62 then codes "&gt;"
    else if nat_le 32 b && nat_le b 126 then b ∷ []
    else codes "?"

abbrev pub escaped : List ℕ → List ℕ
escaped text = flat_map escaped_byte text

-- a number as the value of what is named by a word, as x='5'
abbrev pub valued : List ℕ → ℕ → List ℕ
valued word number = word ++ (decimal number ++ codes "'")

-- the beginning of an element of a class at a place
abbrev pub placed : List ℕ → List ℕ → ℕ → ℕ → List ℕ
placed tag class x y = tag ++ (class ++ (valued (codes "' x='") x ++ valued (codes " y='") y))

-- a text of a class at a place
unfoldable pub text_svg : List ℕ → ℕ → ℕ → List ℕ → List ℕ
text_svg class x y text =
    placed (codes "<text class='") class x y ++ (codes ">" ++ (escaped text ++ codes "</text>\n"))

-- a line from a place, to the right by h and down by v
unfoldable pub line_svg : ℕ → ℕ → List ℕ → ℕ → List ℕ
line_svg x y way reach =
    codes "<path d='M" ++ (decimal x ++ (codes " " ++ (decimal y ++ (valued way reach ++ codes "/>\n"))))

-- a bar of this kind
unfoldable pub rect_svg : List ℕ → ℕ → ℕ → ℕ → List ℕ
rect_svg class x y width =
    placed (codes "<rect class='") class x y ++ (valued (codes " width='") width ++ codes " height='16'/>\n")

-- ---- rows

-- a bar, in a row at this height: from where its first line begins to where its last one ends, and two pixels wide at
-- least
unfoldable pub bar_svg : Span → ℕ → Bar → List ℕ
bar_svg s y b =
    rect_svg (ending_word b.ending) (place_of s b.from) (y - 13) (max (place_of s (b.to + 1) - place_of s b.from) 2)

-- a mark, in a row at this height: in the middle of its line
unfoldable pub mark_svg : Span → ℕ → Mark → List ℕ
mark_svg s y m = text_svg (codes "mark") ((place_of s m.at + place_of s (m.at + 1)) / 2) y (sign_byte m.sign ∷ [])

-- a row at this height: its label, the line along it, its bars, and its marks over them
unfoldable pub row_svg : Table → Span → ℕ → Row → List ℕ
row_svg names s y row =
    text_svg (codes "label") 4 y (cut 31 (label_text names row.label))
    ++ (line_svg 230 (y - 5) (codes "h") (width_of s)
    ++ (flat_map (bar_svg s y) row.bars ++ flat_map (mark_svg s y) row.marks))

-- rows one below the other, from this height on
abbrev pub rows_svg : Table → Span → ℕ → List Row → List ℕ
rows_svg names s y [] = []
rows_svg names s y (row ∷ rows) = row_svg names s y row ++ rows_svg names s (below y 1) rows

-- ---- plans

-- a tick at a line: its number, and a line down the rows
unfoldable pub tick_svg : Span → ℕ → ℕ → ℕ → List ℕ
tick_svg s y reach line =
    text_svg (codes "tick") (place_of s line) y (decimal line)
    ++ line_svg (place_of s line) y (codes "v") reach

-- so many ticks from one on, which part the lines of a plan into seven
abbrev pub ticks_svg : Span → ℕ → ℕ → ℕ → ℕ → List ℕ
ticks_svg s y reach k zero = []
ticks_svg s y reach k (suc n) = tick_svg s y reach (s.from + k * lines_in s / 7) ++ ticks_svg s y reach (suc k) n

-- where the rows of a plan's members begin, and what comes after them, where the plan begins at this height
unfoldable pub after_acts : ℕ → Course → ℕ
after_acts y c = below (below y 3) (length c.acts)

unfoldable pub after_course : ℕ → Course → ℕ
after_course y c = below (after_acts y c) (length c.members)

-- a plan from this height on: its heading, the ticks, the rows of its acts and those of the members
unfoldable pub course_svg : Table → ℕ → Course → List ℕ
course_svg names y c =
    let s = span_of c in
    text_svg (codes "heading") 4 (below y 1) (heading_text c)
    ++ (ticks_svg s (below y 2) (after_course y c - below y 3) 0 ticks
    ++ (rows_svg names s (below y 3) c.acts ++ rows_svg names s (after_acts y c) c.members))

-- plans one below the other, from this height on
abbrev pub courses_svg : Table → ℕ → List Course → List ℕ
courses_svg names y [] = []
courses_svg names y (c ∷ cs) = course_svg names y c ++ courses_svg names (after_course y c) cs

-- ---- the image

-- how the classes look
unfoldable pub style_svg : List ℕ
style_svg =
    codes "<style>text{font:12px monospace}.heading{font-weight:bold}.tick{font-size:10px;text-anchor:middle;fill:#666}"
    ++ codes ".mark{font-weight:bold;text-anchor:middle}path{stroke:#ddd}"
    ++ codes ".done{fill:#9d9}.failed{fill:#f88}.cancelled{fill:#fb5}.open{fill:#9cf}</style>\n"

-- what the colours and the signs mean
unfoldable pub legend_svg : List ℕ
legend_svg =
    codes "<rect class='done' x='4' y='7' width='16' height='16'/><text x='24' y='20'>done</text>"
    ++ codes "<rect class='failed' x='84' y='7' width='16' height='16'/><text x='104' y='20'>failed</text>"
    ++ codes "<rect class='cancelled' x='174' y='7' width='16' height='16'/><text x='194' y='20'>cancelled</text>"
    ++ codes "<rect class='open' x='284' y='7' width='16' height='16'/><text x='304' y='20'>open</text>\n"
    ++ codes "<text x='4' y='40'>? request, o offer, . pass, + confirm, - reject, f feedback, e edit, ! refused edit</text>\n"

-- the beginning of an image, up to its height
unfoldable pub start_svg : List ℕ
start_svg = codes "<svg xmlns='http://www.w3.org/2000/svg' width='940' style='background:#fff' height='"

-- the beginning of an image of this height
unfoldable pub head_svg : ℕ → List ℕ
head_svg height =
    start_svg
    ++ (decimal height ++ (valued (codes "' viewBox='0 0 940 ") height ++ (codes ">\n" ++ style_svg)))

-- the end of an image, with the legend from this height on
unfoldable pub foot_svg : ℕ → List ℕ
foot_svg y =
    codes "<g transform='translate(0 " ++ (decimal y ++ (codes ")'>\n" ++ (legend_svg ++ codes "</g>\n</svg>\n")))

-- where the last plan ends, from this height on
abbrev pub after_all : ℕ → List Course → ℕ
after_all y cs = fold after_course y cs

-- the image of a picture
abbrev pub picture_svg : Table → List Course → List ℕ
picture_svg names cs =
    head_svg (below (after_all 0 cs) 3) ++ (courses_svg names 0 cs ++ foot_svg (after_all 0 cs))
