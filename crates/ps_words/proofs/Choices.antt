-- What words ask for, by their mode and their form.
use Rattle.std.proofs.Common.{◌≡◌, ◌<◌, List, [], ◌∷◌, Option, Some, None, length, get_or, ◌-◌, take, drop, length-drop, true, false, arith, refl, string_bytes}
use Rattle.std.proofs.lemmas.List.{take_all}
use Rattle.std.specs.declared.alloc.Global.{Global}
use Rattle.std.specs.declared.string.String.{String}
use Rattle.clap.specs.Walk.{Text}
use Rattle.ps_words.specs.Words.{asked_by, asked_in, asked_of, is_well_formed, mode_of, word_texts}
use Rattle.ps_words.specs.declared.commands.Mode.{Mode}

-- no words ask for nothing
pub no_words : (ws : List (String Global)) → length ws < 1 → None ≡ asked_of (word_texts ws)
unfolding asked_of
no_words [] few = refl
no_words (w ∷ ws) few = absurd (omega arith)

-- the first word is the mode
pub chosen : (ws : List (String Global)) (first : String Global) → 0 < length ws → first ≡ get_or ws 0 first → asked_of (word_texts ws) ≡ asked_by (word_texts ws) (word_texts (drop 1 ws)) (mode_of (string_bytes first))
unfolding asked_of
chosen [] first some is = absurd (omega arith)
chosen (w ∷ ws) first some is = rw is refl

-- what a pattern calls the words after the first
pub others : (ws : List (String Global)) → take (length ws - 1) (drop 1 ws) ≡ drop 1 ws
others ws = take_all (length ws - 1) (drop 1 ws) (omega (arith, length-drop 1 ws))

-- the first word names no mode
pub no_mode : (words rest : List Text) (o : Option Mode) → o ≡ None → None ≡ asked_by words rest o
no_mode words rest o none = rw none refl

-- the others aren't of the form
pub not_formed : (words rest : List Text) (m : Mode) (o : Option Mode) → o ≡ Some m → is_well_formed rest ≡ false → None ≡ asked_by words rest o
not_formed words rest m o is bad = rw (is, bad) refl

-- the others are of the form
pub formed : (words rest : List Text) (m : Mode) (o : Option Mode) → o ≡ Some m → is_well_formed rest ≡ true → asked_by words rest o ≡ asked_in m words
formed words rest m o is good = rw (is, good) refl
