-- Words that are a letter and then bytes of names.
use Rattle.std.proofs.Common.{◌≡◌, ℕ, zero, suc, ◌+◌, ◌-◌, ◌<◌, ◌≤◌, ◌==◌, Bool, true, false, not, cond, nat_lt, List, ◌∷◌, length, take, drop, get_or, position, slice_range, Option, Some, None, is_none, refl, sym, ap, ◌∙◌, inl, inr, arith}
use Rattle.std.proofs.lemmas.List.{drop_more, get_or-take, length-take}
use Rattle.std.proofs.lemmas.List.Sums.{fails_before_first, position_or_len_is}
use Rattle.std.proofs.lemmas.Bool.{cases_Bool, eqb-true, false≢true, le-ltb, not-false, not_from_true, not_from_false, or_parts}
use Rattle.std.proofs.lemmas.Bool.Decides.{nat_tests}
use Rattle.std.specs.List.{position_or_len}
use Rattle.ps_text.specs.Names.{fault_at, is_letter, is_name, is_name_byte}
use Rattle.ps_text.specs.Tokens.{class_of, IsFirstWord}
use Rattle.ps_text.specs.Words.{is_paren, is_run_byte}
use Rattle.ps_text.specs.declared.lexing.Class.TheVariants as class
use Rattle.ps_text.proofs.Classes.{class_of-name}
use Rattle.ps_text.proofs.Cuts.{IsFirstWord-run}
use Rattle.ps_text.proofs.Pieces.{first-le}
use Rattle.ps_text.proofs.WordSteps.{is_other, run_parts}

abbrev pub no_name_byte : ℕ → Bool
no_name_byte b = not (is_name_byte b)

-- a byte of names is one of a longer word
module _ (b : ℕ) (named : is_name_byte b ≡ true) where
  differs : (n : ℕ) → is_name_byte n ≡ false → (b == n) ≡ false
  differs n h =
      elim (cases_Bool (b == n)) [
        | inl e ↦ absurd (false≢true (sym h ∙ ap is_name_byte (sym (eqb-true b n e)) ∙ named))
        | inr e ↦ e
      ]

  name-run : is_run_byte b ≡ true
  name-run = rw (differs 32 refl, differs 9 refl, differs 13 refl, differs 10 refl, differs 40 refl, differs 41 refl, differs 59 refl) refl

letter-name : (b : ℕ) → is_letter b ≡ true → is_name_byte b ≡ true
letter-name b h = grind (arith, nat_tests)

-- where bytes of names end, a word ends, unless a byte of a longer word stands there
run-is : (xs : List ℕ) (n : ℕ) → n ≡ position_or_len no_name_byte xs → (n < length xs → is_run_byte (get_or xs n 0) ≡ false) → position_or_len is_other xs ≡ n
run-is xs n e ends =
    position_or_len_is is_other xs n 0 (omega (arith, first-le no_name_byte xs))
    (λ k h. not_from_true _ (name-run (get_or xs k 0) (not-false _ (fails_before_first no_name_byte xs k 0 (omega arith)))))
    (λ h. not_from_false _ (ends h))

no_fault : (l : Bool) (p q : Option ℕ) (m : ℕ) → l ≡ true → p ≡ None → nat_lt 64 m ≡ false → is_none (fault_at (cond l p q) m) ≡ true
no_fault l p q m h k e = rw (h, k, e) refl

module _ (b : ℕ) (xs : List ℕ) (n : ℕ) (letter : is_letter b ≡ true) (first : n ≡ position_or_len no_name_byte xs) (short : n < 64) where
  abbrev word : List ℕ
  word = b ∷ take n xs

  byte : (k : ℕ) → k < length word → no_name_byte (get_or word k 0) ≡ false
  byte zero h = not_from_true _ (letter-name b letter)
  byte (suc k) h =
      ap no_name_byte (get_or-take n xs k 0 (omega (arith, length-take n xs)))
      ∙ fails_before_first no_name_byte xs k 0 (omega (arith, length-take n xs))

  none : position no_name_byte word ≡ None
  none =
      let all = position_or_len_is no_name_byte word (length word) 0 (omega arith) byte (λ h. absurd (omega arith)) in
      rw (le-ltb (position_or_len no_name_byte word) (length word) (omega (arith, all))) refl

  name : is_name word ≡ true
  name = no_fault (is_letter b) (position no_name_byte word) (Some 0) (length word) letter none (le-ltb 64 (length word) (omega (arith, length-take n xs)))

-- a name at a place of a text
module _ (bytes : List ℕ) (at : ℕ) (in' : at < length bytes) (letter : is_letter (get_or bytes at 0) ≡ true)
    (rest : List ℕ) (n : ℕ) (is_rest : rest ≡ drop (at + 1) bytes) (first : n ≡ position_or_len no_name_byte rest) where
  abbrev b : ℕ
  b = get_or bytes at 0

  pub IsFirstWord-name : (n < length rest → is_run_byte (get_or rest n 0) ≡ false) → IsFirstWord bytes (record { from = at; to = at + 1 + n })
  IsFirstWord-name ends =
      let parts = run_parts b (name-run b (letter-name b letter)) in
      let others = or_parts (is_paren b) (b == 59) parts.1 in
      IsFirstWord-run bytes at in' parts.0 others.1 (at + 1 + n) others.0
      (ap (λ k. at + 1 + k) (sym (run-is rest n first ends) ∙ ap (position_or_len is_other) is_rest))

  pub class_of-at : n < 64 → class_of (slice_range bytes at (at + 1 + n)) ≡ Some class.Name
  class_of-at short =
      let count : at + 1 + n - at ≡ suc n = omega arith in
      let cut : drop at bytes ≡ b ∷ rest = drop_more bytes at 0 in' ∙ ap (λ t. b ∷ t) (sym is_rest) in
      ap class_of (ap (λ k. take k (drop at bytes)) count ∙ ap (take (suc n)) cut)
      ∙ class_of-name (b ∷ take n rest) (name b rest n letter first short)

-- ---- where no byte is bad

pub no_position-by : (n k : ℕ) (e : Bool) → nat_lt k n ≡ e → cond e (Some k) None ≡ None → n ≤ k
no_position-by n k true e h = absurd (cc)
no_position-by n k false e h = grind (arith, nat_tests)

pub no_bad_place : (at : Option ℕ) (n : ℕ) → fault_at at n ≡ None → at ≡ None
no_bad_place None n h = refl
no_bad_place (Some at) n h = absurd (cc)
