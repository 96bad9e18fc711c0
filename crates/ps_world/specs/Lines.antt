-- Texts as lists of bytes, and their lines.
use Rattle.std.specs.Prelude.{◌≡◌, ℕ, Bool, true, nat_eq, not, All, List, [], ◌∷◌, if◌then◌else◌, ◌==◌}
use Rattle.std.specs.List.{list_all}
use Rattle.std.specs.Cmp.Lexicographic.{pointwise}

-- whether two texts are the same
abbrev pub same_text : List ℕ → List ℕ → Bool
same_text = pointwise nat_eq

-- the lines with this byte before the first of them
abbrev pub lengthened : ℕ → List (List ℕ) → List (List ℕ)
lengthened b [] = (b ∷ []) ∷ []
lengthened b (line ∷ lines) = (b ∷ line) ∷ lines

-- the lines of a text, each without the LF that ends it; the last line needs none
abbrev pub lines_of : List ℕ → List (List ℕ)
lines_of [] = []
lines_of (b ∷ bs) = if b == 10 then [] ∷ lines_of bs else lengthened b (lines_of bs)

-- whether a text is one line: no LF stands in it
abbrev pub is_line : List ℕ → Bool
is_line text = list_all (λ b. not (b == 10)) text

-- what ends a line
abbrev pub line_end : List ℕ
line_end = 10 ∷ []

-- each of these texts is one line
abbrev pub AreLines : List (List ℕ) → Type 0
AreLines texts = All (λ text. is_line text ≡ true) texts
