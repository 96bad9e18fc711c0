-- The numbers of a text's words are within the limits, so what the text is read as is well formed.
use Rattle.std.proofs.Common.{◌≡◌, ◌≤◌, ◌^◌, ◌==◌, nat_le, neg_ℤ, pos, unsigned_abs, ℕ, zero, suc, Bool, true, false, List, [], ◌∷◌, ◌++◌, Result, Ok, Err, slice_range, refl, ap, subst, arith}
use Rattle.std.specs.Bool.{if◌then◌else◌}
use Rattle.std.specs.Result.{result_map_both, result_unwrap_or}
use Rattle.std.proofs.lemmas.Bool.{leb-true}
use Rattle.ps_world.specs.Names.{Table}
use Rattle.ps_world.specs.Numbers.{IsCount}
use Rattle.ps_text.specs.Decimals.{count_of, is_coarse, is_plain, magnitude_of}
use Rattle.ps_text.specs.declared.decimals.NumRefusal.{NumRefusal}
use Rattle.ps_text.specs.declared.decimals.NumRefusal.TheVariants.{NotNumber, TooFine, TooLarge}
use Rattle.ps_text.specs.declared.lexing.Token.{Token}
use Rattle.ps_pddl.specs.Laws.{ReadingsAreWellFormed}
use Rattle.ps_lists.specs.Lexemes.{lexemes_of, number_or_zero, table_after}
use Rattle.ps_lists.specs.Nested.{Nested, Nesteds}
use Rattle.ps_pddl.specs.Reading.{HasWords}
use Rattle.ps_pddl.specs.Reading.IsRead.{with_meaning}
use Rattle.ps_lists.specs.Spelling.{Spells, SpellAll}
use Rattle.ps_lists.specs.Spelling.Spells.{plain, between}
use Rattle.ps_lists.specs.Spelling.SpellAll.{nothing, one_more}
use Rattle.ps_pddl.specs.WellFormed.{AreCounted, IsCounted}
use Rattle.ps_lists.specs.declared.lexemes.Lexeme.{Lexeme}
use Rattle.ps_pddl.proofs.SoundActions.{domains_are_well_formed}

-- ---- numbers

-- the count, if there is one, is within the limits
abbrev IsMagnitude : Result ℕ NumRefusal → Type 0
IsMagnitude (Ok n) = n ≤ 10 ^ 15
IsMagnitude (Err e) = Unit {0}

limited : (plain coarse few : Bool) (n : ℕ) → (few ≡ true → n ≤ 10 ^ 15) → IsMagnitude (if plain then (if coarse then (if few then Ok n else Err TooLarge) else Err TooFine) else Err NotNumber)
limited false coarse few n h = tt
limited true false few n h = tt
limited true true false n h = tt
limited true true true n h = h refl

magnitude_limited : (text : List ℕ) → IsMagnitude (magnitude_of text)
magnitude_limited text = limited (is_plain text) (is_coarse text) (nat_le (count_of text) (10 ^ 15)) (count_of text) (leb-true (count_of text) (10 ^ 15))

abs_neg : (n : ℕ) → unsigned_abs (neg_ℤ (pos n)) ≡ n
abs_neg zero = refl
abs_neg (suc n) = refl

below_zero : (r : Result ℕ NumRefusal) → IsMagnitude r → IsCount (result_unwrap_or (result_map_both (λ n. neg_ℤ (pos n)) (λ e. e) r) (pos 0))
below_zero (Ok n) h = rw (abs_neg n) h
below_zero (Err e) h = omega arith

above_zero : (r : Result ℕ NumRefusal) → IsMagnitude r → IsCount (result_unwrap_or (result_map_both pos (λ e. e) r) (pos 0))
above_zero (Ok n) h = h
above_zero (Err e) h = omega arith

either_number : (minus : Bool) (r s : Result ℕ NumRefusal) → IsMagnitude r → IsMagnitude s → IsCount (result_unwrap_or (if minus then result_map_both (λ n. neg_ℤ (pos n)) (λ e. e) r else result_map_both pos (λ e. e) s) (pos 0))
either_number true r s h k = below_zero r h
either_number false r s h k = above_zero s k

-- the number of a text is within the limits
pub number_counted : (text : List ℕ) → IsCount (number_or_zero text)
number_counted [] = omega arith
number_counted (b ∷ bs) = either_number (b == 45) (magnitude_of bs) (magnitude_of (b ∷ bs)) (magnitude_limited bs) (magnitude_limited (b ∷ bs))

-- ---- words

-- the number of each word is within the limits
abbrev WordsCounted : List Lexeme → Type 0
WordsCounted [] = Unit {0}
WordsCounted (l ∷ ls) = IsCount l.number × WordsCounted ls

words_counted : (bytes : List ℕ) (table : Table) (tokens : List Token) → WordsCounted (lexemes_of bytes table tokens).0
words_counted bytes table [] = tt
words_counted bytes table (token ∷ tokens) = (number_counted (slice_range bytes token.from token.to), words_counted bytes (table_after bytes table token) tokens)

first_counted : (ls ms : List Lexeme) → WordsCounted (ls ++ ms) → WordsCounted ls
first_counted [] ms h = tt
first_counted (l ∷ ls) ms h = (h.0, first_counted ls ms h.1)

later_counted : (ls ms : List Lexeme) → WordsCounted (ls ++ ms) → WordsCounted ms
later_counted [] ms h = h
later_counted (l ∷ ls) ms h = later_counted ls ms h.1

mutual
  one_counted : (t : Nested) (ls : List Lexeme) → Spells t ls → WordsCounted ls → IsCounted t
  one_counted _ _ (plain l o c) h = h.0
  one_counted _ _ (between left right ts ls o c s) h = all_counted ts ls s (first_counted ls (right ∷ []) h.1)

  all_counted : (ts : Nesteds) (ls : List Lexeme) → SpellAll ts ls → WordsCounted ls → AreCounted ts
  all_counted _ _ nothing h = tt
  all_counted _ _ (one_more t ts ls ms s r) h = (one_counted t ls s (first_counted ls ms h), all_counted ts ms r (later_counted ls ms h))

-- ---- readings

text_counted : (table : Table) (bytes : List ℕ) (ls : List Lexeme) (after : Table) → HasWords table bytes ls after → WordsCounted ls
text_counted table bytes ls after words = subst WordsCounted (ap (λ x. x.0) words.words) (words_counted bytes table words.tokens)

pub readings_are_well_formed : ReadingsAreWellFormed
readings_are_well_formed table bytes d _ (with_meaning ls after ts _ words p q spelled e) =
    domains_are_well_formed ts d (all_counted ts ls spelled (text_counted table bytes ls after words)) e
