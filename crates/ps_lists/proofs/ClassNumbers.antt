-- A word of another class than that of numbers is no number.
use Rattle.std.proofs.Common.{◌≡◌, ℕ, zero, suc, ◌<◌, ◌≤◌, ◌==◌, length, take, ℤ, pos, neg_ℤ, Bool, true, false, not, if◌then◌else◌, List, [], ◌∷◌, codes, Some, Result, Ok, Err, is_ok, refl, sym, subst, arith}
use Rattle.std.proofs.lemmas.Bool.{and_left, and_parts, eqb-true, ne_eqb}
use Rattle.std.proofs.lemmas.Bool.Decides.{nat_tests}
use Rattle.std.specs.Char.{is_ascii_digit}
use Rattle.std.specs.List.{list_all, position_or_len}
use Rattle.std.specs.Result.{result_map_both, result_unwrap_or}
use Rattle.ps_world.specs.Lines.{same_text}
use Rattle.ps_text.specs.Decimals.{are_digits, is_plain, is_point, magnitude_of, number_of, whole_part}
use Rattle.ps_text.specs.Names.{is_name}
use Rattle.ps_text.specs.Tokens.{begins_digit, begins_number, class_of, is_marked, is_sign}
use Rattle.ps_text.specs.declared.decimals.NumRefusal.{NumRefusal}
use Rattle.ps_text.specs.declared.decimals.NumRefusal.TheVariants.{NotNumber}
use Rattle.ps_text.specs.declared.lexing.Class.{Class}
use Rattle.ps_text.specs.declared.lexing.Class.TheVariants as class
use Rattle.ps_lists.specs.Lexemes.{number_or_zero}
use Rattle.ps_lists.proofs.TokenNames.{first_class}

-- ---- what a number begins with

-- the first of the digits at the front of a text
digits_first : (b : ℕ) (bs : List ℕ) (n : ℕ) → are_digits (take n (b ∷ bs)) ≡ true → is_ascii_digit b ≡ true
digits_first b bs zero h = absurd (cc)
digits_first b bs (suc n) h =
    (and_parts (is_ascii_digit b) (list_all is_ascii_digit (take n bs)) (and_parts (not (length (b ∷ take n bs) == 0)) (list_all is_ascii_digit (b ∷ take n bs)) h).1).0

digit-plain : (text : List ℕ) → is_plain text ≡ true → begins_digit text ≡ true
digit-plain [] h = absurd (cc)
digit-plain (b ∷ bs) h = digits_first b bs (position_or_len is_point (b ∷ bs)) (and_parts (are_digits (whole_part (b ∷ bs))) _ h).0

plain_if : (p : Bool) (r : Result ℕ NumRefusal) → is_ok (if p then r else Err NotNumber) ≡ true → p ≡ true
plain_if true r h = refl
plain_if false r h = absurd (cc)

digit-magnitude : (text : List ℕ) → is_ok (magnitude_of text) ≡ true → begins_digit text ≡ true
digit-magnitude text h = digit-plain text (plain_if (is_plain text) _ h)

is_ok-inner : (f : ℕ → ℤ) (r : Result ℕ NumRefusal) → is_ok (result_map_both f (λ e. e) r) ≡ true → is_ok r ≡ true
is_ok-inner f (Ok n) h = refl
is_ok-inner f (Err e) h = absurd (cc)

-- by whether `-` comes first
begins_by : (s : Bool) (b : ℕ) (bs : List ℕ)
    → is_ok (if s then result_map_both (λ n. neg_ℤ (pos n)) (λ e. e) (magnitude_of bs) else result_map_both pos (λ e. e) (magnitude_of (b ∷ bs))) ≡ true
    → (if s then begins_digit bs else is_ascii_digit b) ≡ true
begins_by true b bs h = digit-magnitude bs (is_ok-inner (λ n. neg_ℤ (pos n)) (magnitude_of bs) h)
begins_by false b bs h = digit-magnitude (b ∷ bs) (is_ok-inner pos (magnitude_of (b ∷ bs)) h)

begins-number : (word : List ℕ) → is_ok (number_of word) ≡ true → begins_number word ≡ true
begins-number [] h = absurd (cc)
begins-number (b ∷ bs) h = begins_by (b == 45) b bs h

-- ---- the class of a number

digit_bounds : (b : ℕ) → is_ascii_digit b ≡ true → (48 ≤ b) × (b ≤ 57)
digit_bounds b d = grind (arith, nat_tests)

module _ (b : ℕ) (d : is_ascii_digit b ≡ true) where
  less : (k : ℕ) → k < 48 → (b == k) ≡ false
  less k l = ne_eqb b k (λ e. omega (arith, (digit_bounds b d).0, l, e))

  more : (k : ℕ) → 57 < k → (b == k) ≡ false
  more k l = ne_eqb b k (λ e. omega (arith, (digit_bounds b d).1, l, e))

  unsigned : (bs : List ℕ) → is_sign (b ∷ bs) ≡ false
  unsigned [] =
      rw (less 43 (omega arith), less 42 (omega arith), less 47 (omega arith), more 61 (omega arith))
      (rw (more 60 (omega arith), more 62 (omega arith), less 45 (omega arith)))
  unsigned (c ∷ bs) = rw (more 60 (omega arith), more 62 (omega arith))

pub first_number : (l r s v k g n t m : Bool) → l ≡ false → r ≡ false → s ≡ false → v ≡ false → k ≡ false → g ≡ true → n ≡ true → first_class l r s v k g n t m ≡ Some class.Number
first_number l r s v k g n t m p1 p2 p3 p4 p5 p6 p7 = rw (p1, p2, p3, p4, p5, p6, p7)

-- after a digit as its first byte
digit_class : (b : ℕ) (bs : List ℕ) → is_ascii_digit b ≡ true → is_ok (number_of (b ∷ bs)) ≡ true → class_of (b ∷ bs) ≡ Some class.Number
digit_class b bs d h =
    let begins : begins_number (b ∷ bs) ≡ true = rw (less b d 45 (omega arith), d) in
    first_number (same_text (b ∷ bs) (codes "(")) (same_text (b ∷ bs) (codes ")")) (is_sign (b ∷ bs)) (is_marked 63 (b ∷ bs)) (is_marked 58 (b ∷ bs)) (begins_number (b ∷ bs))
    (is_ok (number_of (b ∷ bs)))
    (same_text (b ∷ bs) (codes "#t"))
    (is_name (b ∷ bs))
    (and_left (b == 40) _ (less b d 40 (omega arith)))
    (and_left (b == 41) _ (less b d 41 (omega arith)))
    (unsigned b d bs)
    (and_left (b == 63) _ (more b d 63 (omega arith)))
    (and_left (b == 58) _ (more b d 58 (omega arith)))
    begins
    h

-- after `-`
pub minus_class : (bs : List ℕ) → begins_digit bs ≡ true → is_ok (number_of (45 ∷ bs)) ≡ true → class_of (45 ∷ bs) ≡ Some class.Number
minus_class [] d h = absurd (cc)
minus_class (c ∷ bs) d h = rw (d, h)

class_by : (s : Bool) (b : ℕ) (bs : List ℕ) → (b == 45) ≡ s → (if s then begins_digit bs else is_ascii_digit b) ≡ true
    → is_ok (number_of (b ∷ bs)) ≡ true → class_of (b ∷ bs) ≡ Some class.Number
class_by true b bs e d h =
    let is : b ≡ 45 = eqb-true b 45 e in
    subst (λ x. class_of (x ∷ bs) ≡ Some class.Number) (sym is) (minus_class bs d (subst (λ x. is_ok (number_of (x ∷ bs)) ≡ true) is h))
class_by false b bs e d h = digit_class b bs d h

number_class : (word : List ℕ) → is_ok (number_of word) ≡ true → class_of word ≡ Some class.Number
number_class [] h = absurd (cc)
number_class (b ∷ bs) h = class_by (b == 45) b bs refl (begins-number (b ∷ bs) h) h

zero_or : (r : Result ℤ NumRefusal) → (is_ok r ≡ true → ⊥) → result_unwrap_or r (pos 0) ≡ pos 0
zero_or (Ok z) none = absurd (none refl)
zero_or (Err e) none = refl

-- a word that isn't of the class of numbers counts as zero
pub zero-other : (word : List ℕ) (c : Class) → class_of word ≡ Some c → (c ≡ class.Number → ⊥) → number_or_zero word ≡ pos 0
zero-other word c e other =
    zero_or (number_of word) (λ h. let n = number_class word h in other (cc))
