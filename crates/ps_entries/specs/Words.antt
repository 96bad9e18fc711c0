-- The words of an entry's line, and what they stand for.
use Rattle.std.specs.Prelude.{ℕ, ◌-◌, ◌^◌, Bool, ◌==◌, nat_eq, nat_le, if◌then◌else◌, List, [], ◌∷◌, codes, length, take, min, slice_index_or, Option, Some, None}
use Rattle.std.specs.List.{after_first, starts_with}
use Rattle.std.specs.Str.Parse.{digits_value}
use Rattle.ps_world.specs.Names.{Table, object}
use Rattle.ps_world.specs.declared.names.Name.{Name}
use Rattle.ps_text.specs.Decimals.{are_digits}
use Rattle.ps_text.specs.Names.{folded, interned, is_name, place_of}
use Rattle.ps_text.specs.Words.{reads_as, word_at}

-- ---- the part of a line that is read word by word

-- a space
abbrev pub is_space : ℕ → Bool
is_space b = b == 32

-- what stands after the first space, or nothing
abbrev pub after_word : List ℕ → List ℕ
after_word text = after_first is_space text

-- what stands after two words
abbrev pub after_two : List ℕ → List ℕ
after_two text = after_word (after_word text)

-- what stands after whoever edits, and a space: the terminal and its line, a performer and its request, or an observer
abbrev pub after_by : List ℕ → List ℕ
after_by text = if starts_with nat_eq text (codes "performer ") then after_word (after_two text) else after_two text

-- what stands in a line after its hand and isn't read word by word: an edit, a query, a note, or nothing
abbrev pub tail_after : List ℕ → List ℕ
tail_after text =
    if starts_with nat_eq text (codes "edit ") then after_by (after_word text)
    else (if starts_with nat_eq text (codes "ask ") then after_word text
    else (if starts_with nat_eq text (codes "feedback ") then after_two (after_two text)
    else []))

-- what stands in a line and isn't read word by word
abbrev pub tail_of : List ℕ → List ℕ
tail_of line = tail_after (after_word line)

-- what stands before it
abbrev pub head_of : List ℕ → List ℕ
head_of line = take (length line - length (tail_of line)) line

-- ---- names

-- the table with a word, if it is a name
abbrev pub with_word : Table → List ℕ → Table
with_word names word = if is_name word then interned names (folded word) else names

-- the table with those of these words that are names, in order
abbrev pub with_words : Table → List (List ℕ) → Table
with_words names [] = names
with_words names (word ∷ more) = with_words (with_word names word) more

-- the name that a word is, with its number in the table or that which it will have as its next; `object` where it is none
abbrev pub name_of : Table → List ℕ → Name
name_of names word = if is_name word then record { 0 = place_of names (folded word) } else object

-- the name that each word is, where those before it are in the table
abbrev pub names_of : Table → List (List ℕ) → List Name
names_of names [] = []
names_of names (word ∷ more) = name_of names word ∷ names_of (with_word names word) more

-- the name at a place, or `object` past the end
abbrev pub name_at : List Name → ℕ → Name
name_at ns at = slice_index_or ns at object

-- ---- numbers

-- the number that digits write, or the greatest of 64 bits where it is greater
abbrev pub whole_number : List ℕ → Option ℕ
whole_number word = if are_digits word then Some (min (digits_value 10 word) (2 ^ 64 - 1)) else None

-- a number up to this one
abbrev pub up_to : ℕ → Option ℕ → Option ℕ
up_to most None = None
up_to most (Some n) = if nat_le n most then Some n else None

-- the number that the word at a place is
abbrev pub number_at : List (List ℕ) → ℕ → Option ℕ
number_at ws at = whole_number (word_at ws at)

-- the same, of 32 bits
abbrev pub short_at : List (List ℕ) → ℕ → Option ℕ
short_at ws at = up_to (2 ^ 32 - 1) (number_at ws at)

-- whether the word at a place is this fixed word, in any case of its letters
abbrev pub reads : List (List ℕ) → ℕ → List ℕ → Bool
reads ws at fixed = reads_as (word_at ws at) fixed
