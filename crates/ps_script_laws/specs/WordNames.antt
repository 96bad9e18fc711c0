-- The table of names after words.
use Rattle.std.specs.Prelude.{ℕ, Option, List, [], ◌∷◌}
use Rattle.std.specs.Option.{option_and_then}
use Rattle.ps_world.specs.Names.{Table}
use Rattle.ps_text.specs.Tokens.{class_of}
use Rattle.ps_lists.specs.Lexemes.{name_within, named}

-- the name in a word: a name itself, or a variable without its `?`
abbrev pub word_name : List ℕ → Option (List ℕ)
word_name w = option_and_then (λ c. name_within c w) (class_of w)

-- a table with the names of these words at its end, in order, but for those that are there
abbrev pub with_words : Table → List (List ℕ) → Table
with_words table [] = table
with_words table (w ∷ ws) = with_words (named table (word_name w)) ws
