-- The texts of names in lower case.
use Rattle.std.proofs.Common.{◌≡◌, ℕ, ◌+◌, Bool, not, cond, List, [], ◌∷◌, map, None, position, refl, ap, ◌∙◌, arith}
use Rattle.std.proofs.lemmas.List.{length-map}
use Rattle.std.proofs.lemmas.Bool.Decides.{nat_tests}
use Rattle.std.specs.List.{list_any, position_or_len}
use Rattle.ps_text.specs.Names.{lower, folded, is_letter, is_name_byte, bad_place, name_fault, IsNameText}

-- ---- a list that is seen through a function

module _ {V W : Type 0} (f : V → W) (p : W → Bool) where
  pub position_or_len-map : (vs : List V) → position_or_len (λ v. p (f v)) vs ≡ position_or_len p (map f vs)
  position_or_len-map [] = refl
  position_or_len-map (v ∷ vs) = ap (λ n. cond (not (p (f v))) (1 + n) 0) (position_or_len-map vs)

  pub position-map : (vs : List V) → position (λ v. p (f v)) vs ≡ position p (map f vs)
  position-map vs = rw (position_or_len-map vs, length-map vs f)

  pub list_any-map : (vs : List V) → list_any (λ v. p (f v)) vs ≡ list_any p (map f vs)
  list_any-map [] = refl
  list_any-map (v ∷ vs) = rw (list_any-map vs)

-- ---- lower case keeps what a byte is

pub is_letter-lower : (b : ℕ) → is_letter (lower b) ≡ is_letter b
is_letter-lower b = grind (arith, nat_tests)

pub is_name_byte-lower : (b : ℕ) → is_name_byte (lower b) ≡ is_name_byte b
is_name_byte-lower b = grind (arith, nat_tests)

pub lower-lower : (b : ℕ) → lower (lower b) ≡ lower b
lower-lower b = grind (arith, nat_tests)

pub folded-folded : (text : List ℕ) → folded (folded text) ≡ folded text
folded-folded [] = refl
folded-folded (b ∷ bs) = rw (lower-lower b, folded-folded bs)

-- ---- the fault of a text stays

first_other-folded : (text : List ℕ) → position_or_len (λ c. not (is_name_byte c)) (folded text) ≡ position_or_len (λ c. not (is_name_byte c)) text
first_other-folded [] = refl
first_other-folded (b ∷ bs) = rw (is_name_byte-lower b, first_other-folded bs)

position-folded : (text : List ℕ) → position (λ c. not (is_name_byte c)) (folded text) ≡ position (λ c. not (is_name_byte c)) text
position-folded text = rw (first_other-folded text, length-map text lower)

pub bad_place-folded : (text : List ℕ) → bad_place (folded text) ≡ bad_place text
bad_place-folded [] = refl
bad_place-folded (b ∷ bs) = rw (is_letter-lower b, position-folded (b ∷ bs))

pub name_fault-folded : (text : List ℕ) → name_fault (folded text) ≡ name_fault text
name_fault-folded [] = refl
name_fault-folded (b ∷ bs) = rw (bad_place-folded (b ∷ bs), length-map bs lower) refl

pub IsNameText-folded : (text : List ℕ) → name_fault text ≡ None → IsNameText (folded text)
IsNameText-folded text h = record { name = name_fault-folded text ∙ h; lower_case = folded-folded text }
