-- The texts of names, and the table of names.
use Rattle.std.specs.Prelude.{◌≡◌, ℕ, ◌<◌, Bool, not, ◌||◌, ◌==◌, nat_lt, List, [], ◌∷◌, ◌++◌, if◌then◌else◌, map, length, position, slice_get, slice_index_or, codes, Option, Some, None, is_none, All}
use Rattle.std.specs.List.{list_any, position_or_len}
use Rattle.std.specs.Char.{to_ascii_lowercase, is_ascii_alphabetic, is_ascii_alphanumeric}
use Rattle.ps_world.specs.Lines.{same_text}
use Rattle.ps_world.specs.Names.{Table}
use Rattle.ps_text.specs.declared.table.NameRefusal.{NameRefusal}
use Rattle.ps_text.specs.declared.table.NameRefusal.TheVariants.{Empty, BadByte, Long}

-- a byte in lower case
abbrev pub lower : ℕ → ℕ
lower = to_ascii_lowercase

-- a text in lower case
abbrev pub folded : List ℕ → List ℕ
folded = map lower

-- a letter, with which a name begins
abbrev pub is_letter : ℕ → Bool
is_letter = is_ascii_alphabetic

-- a letter, a digit, `-` or `_`
abbrev pub is_name_byte : ℕ → Bool
is_name_byte b = is_ascii_alphanumeric b || (b == 45 || b == 95)

-- the first byte that isn't allowed at its place in a name
abbrev pub bad_place : List ℕ → Option ℕ
bad_place [] = None
bad_place (b ∷ bs) = if is_letter b then position (λ c. not (is_name_byte c)) (b ∷ bs) else Some 0

-- why a text with this bad place and this length is no name
abbrev pub fault_at : Option ℕ → ℕ → Option NameRefusal
fault_at (Some at) n = Some (BadByte at)
fault_at None n = if nat_lt 64 n then Some Long else None

-- why a text is no name: it is empty, else has a bad byte, else is longer than 64 bytes
abbrev pub name_fault : List ℕ → Option NameRefusal
name_fault [] = Some Empty
name_fault (b ∷ bs) = fault_at (bad_place (b ∷ bs)) (length (b ∷ bs))

-- whether a text is a name
abbrev pub is_name : List ℕ → Bool
is_name text = is_none (name_fault text)

-- the first place of a text in a table, or the table's length
abbrev pub place_of : Table → List ℕ → ℕ
place_of table text = position_or_len (same_text text) table

-- a table with this text at its end unless the text is there
abbrev pub interned : Table → List ℕ → Table
interned table text = if list_any (same_text text) table then table else table ++ text ∷ []

-- a name in lower case
pub record IsNameText (text : List ℕ) : Type 0 where
  pub name : name_fault text ≡ None
  pub lower_case : folded text ≡ text

-- a table of names: each text is one, none is there twice, and the first is `object`
pub record AreNames (table : Table) : Type 0 where
  pub texts : All IsNameText table
  pub apart : (i j : ℕ) → i < length table → j < length table → slice_index_or table i [] ≡ slice_index_or table j [] → i ≡ j
  pub first : slice_get table 0 ≡ Some (codes "object")

-- old names keep their texts
abbrev pub Keeps : Table → Table → Type 0
Keeps table after = (n : ℕ) → n < length table → slice_get after n ≡ slice_get table n
