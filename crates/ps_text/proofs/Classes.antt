-- The class of a name.
use Rattle.std.proofs.Common.{◌≡◌, ℕ, ◌==◌, Bool, true, false, cond, List, [], ◌∷◌, codes, Some, None, is_ok, refl, sym, ap, ◌∙◌, inl, inr, arith}
use Rattle.std.proofs.lemmas.Bool.{cases_Bool, eqb-true, false≢true}
use Rattle.std.proofs.lemmas.Bool.Decides.{nat_tests}
use Rattle.std.specs.Char.{is_ascii_digit}
use Rattle.ps_world.specs.Lines.{same_text}
use Rattle.ps_text.specs.Decimals.{number_of}
use Rattle.ps_text.specs.Names.{is_letter, is_name}
use Rattle.ps_text.specs.Tokens.{begins_number, class_of, is_marked, is_sign}
use Rattle.ps_text.specs.declared.lexing.Class.TheVariants as class

-- the answer of eight tests, one after another, of which the last alone holds
eighth_of : {A : Type 0} (p q r s t u v w : Bool) (a b c d e f g h z : A) → p ≡ false → q ≡ false → r ≡ false → s ≡ false → t ≡ false → u ≡ false → v ≡ false → w ≡ true → cond p a (cond q b (cond r c (cond s d (cond t e (cond u f (cond v g (cond w h z))))))) ≡ h
eighth_of p q r s t u v w a b c d e f g h z p' q' r' s' t' u' v' w' = rw (p', q', r', s', t', u', v', w') refl

-- a name begins with a letter, and no word of another class does
module _ (b : ℕ) (letter : is_letter b ≡ true) where
  other : (n : ℕ) → is_letter n ≡ false → (b == n) ≡ false
  other n h =
      elim (cases_Bool (b == n)) [
        | inl e ↦ absurd (false≢true (sym h ∙ ap is_letter (sym (eqb-true b n e)) ∙ letter))
        | inr e ↦ e
      ]

  no_digit : is_ascii_digit b ≡ false
  no_digit = grind (arith, nat_tests)

  no_sign : (bs : List ℕ) → is_sign (b ∷ bs) ≡ false
  no_sign [] = rw (other 43 refl, other 42 refl, other 47 refl, other 61 refl, other 60 refl, other 62 refl, other 45 refl) refl
  no_sign (c ∷ bs) = rw (other 60 refl, other 62 refl) refl

  class_of-letter : (bs : List ℕ) → is_name (b ∷ bs) ≡ true → class_of (b ∷ bs) ≡ Some class.Name
  class_of-letter bs h =
      let word = b ∷ bs in
      eighth_of
      (same_text word (codes "(")) (same_text word (codes ")")) (is_sign word) (is_marked 63 word) (is_marked 58 word) (begins_number word) (same_text word (codes "#t")) (is_name word)
      (Some class.LeftParen) (Some class.RightParen) (Some class.Sign) (Some class.Variable) (Some class.Keyword) (cond (is_ok (number_of word)) (Some class.Number) None) (Some class.Continuous) (Some class.Name) None
      (rw (other 40 refl) refl) (rw (other 41 refl) refl) (no_sign bs) (rw (other 63 refl) refl) (rw (other 58 refl) refl) (rw (other 45 refl, no_digit) refl) (rw (other 35 refl) refl) h

pub class_of-name : (word : List ℕ) → is_name word ≡ true → class_of word ≡ Some class.Name
class_of-name [] h = absurd (false≢true h)
class_of-name (b ∷ bs) h =
    elim (cases_Bool (is_letter b)) [
      | inl letter ↦ class_of-letter b letter bs h
      | inr other ↦ absurd (false≢true (rw other at h))
    ]
