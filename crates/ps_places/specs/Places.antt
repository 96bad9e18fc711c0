-- Where a byte of a text stands.
use Rattle.std.specs.Prelude.{◌≡◌, ◌⊎◌, ℕ, suc, ◌+◌, ◌-◌, ◌<◌, ◌≤◌, Bool, true, false, ◌==◌, min, List, length, take, slice_index_or}
use Rattle.std.specs.List.{count_by}
use Rattle.ps_places.specs.declared.places.Place.{Place}

-- LF, which ends a line
abbrev pub is_line_feed : ℕ → Bool
is_line_feed b = b == 10

-- whether an LF stands at a place
abbrev pub has_line_feed : List ℕ → ℕ → Bool
has_line_feed text i = is_line_feed (slice_index_or text i 0)

-- no LF stands from one place up to another
abbrev pub IsOneLine : List ℕ → ℕ → ℕ → Type 0
IsOneLine text from to = (i : ℕ) → from ≤ i → i < to → has_line_feed text i ≡ false

-- the line of a byte begins at a place: at the beginning of the text or after an LF, with no LF between
pub record BeginsLine (text : List ℕ) (at from : ℕ) : Type 0 where
  pub within : from ≤ at
  pub one : IsOneLine text from at
  pub whole : (from ≡ 0) ⊎ (has_line_feed text (from - 1) ≡ true)

-- the line of a byte ends at a place: at an LF or at the end of the text, with no LF between
pub record EndsLine (text : List ℕ) (at to : ℕ) : Type 0 where
  pub after : at ≤ to
  pub within : to ≤ length text
  pub one : IsOneLine text at to
  pub whole : (to ≡ length text) ⊎ (has_line_feed text to ≡ true)

-- A byte stands in the line that has one number more than LFs stand before it, and in its line at the column that counts the bytes from 1.
-- A byte past the end of the text stands where the text ends.
pub record IsPlace (text : List ℕ) (at : ℕ) (p : Place) : Type 0 where
  pub line : p.line ≡ count_by is_line_feed (take (min at (length text)) text) + 1
  pub column : p.from + p.column ≡ min at (length text) + 1
  pub begins : BeginsLine text (min at (length text)) p.from
  pub ends : EndsLine text (min at (length text)) p.to
