-- The words of a text, and the pieces of it that spans mark.
use Rattle.std.specs.Prelude.{ℕ, ◌≤◌, Bool, false, not, ◌&&◌, ◌||◌, ◌==◌, List, [], ◌∷◌, if◌then◌else◌, map, length, slice_index_or, slice_range, All}
use Rattle.ps_world.specs.Lines.{lengthened, same_text}
use Rattle.ps_text.specs.Names.{folded}
use Rattle.ps_text.specs.declared.spans.Span.{Span}

-- space, tab, CR or LF
abbrev pub is_blank : ℕ → Bool
is_blank b = (b == 32 || b == 9) || (b == 13 || b == 10)

-- `(` or `)`, which stands alone
abbrev pub is_paren : ℕ → Bool
is_paren b = b == 40 || b == 41

-- a byte of a longer word: no blank, no parenthesis and no `;`
abbrev pub is_run_byte : ℕ → Bool
is_run_byte b = not (is_blank b || (is_paren b || b == 59))

-- whether a text begins with a byte of a longer word
abbrev pub goes_on : List ℕ → Bool
goes_on [] = false
goes_on (b ∷ bs) = is_run_byte b

abbrev mutual
  -- the words of a text; `;` begins a comment, up to the end of its line
  pub words : List ℕ → List (List ℕ)
  words [] = []
  words (b ∷ bs) = if is_blank b then words bs else (if b == 59 then skipped bs else (if is_run_byte b && goes_on bs then lengthened b (words bs) else (b ∷ []) ∷ words bs))

  -- the words after the rest of a comment
  pub skipped : List ℕ → List (List ℕ)
  skipped [] = []
  skipped (b ∷ bs) = if b == 10 then words bs else skipped bs

-- the pieces of a text that these spans mark
abbrev pub pieces : List ℕ → List Span → List (List ℕ)
pieces bytes spans = map (λ s. slice_range bytes s.from s.to) spans

-- a span lies within the text
abbrev pub IsWithin : List ℕ → Span → Type 0
IsWithin bytes s = (s.from ≤ s.to) × (s.to ≤ length bytes)

-- each span lies within the text
abbrev pub AreWithin : List ℕ → List Span → Type 0
AreWithin bytes spans = All (IsWithin bytes) spans

-- the word at a place, or the empty text past the end
abbrev pub word_at : List (List ℕ) → ℕ → List ℕ
word_at ws i = slice_index_or ws i []

-- whether a word is this fixed text, in any case of its letters
abbrev pub reads_as : List ℕ → List ℕ → Bool
reads_as word fixed = same_text (folded word) fixed
