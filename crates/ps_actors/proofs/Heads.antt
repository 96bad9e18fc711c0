-- The first thing that comes of a range of numbers.
use Rattle.std.proofs.Common.{◌≡◌, ℕ, zero, suc, ◌+◌, ◌<◌, ◌≤◌, ◌==◌, Bool, true, false, Option, Some, None, filter_map, refl, ap, arith, ◌∙◌}
use Rattle.std.proofs.lemmas.Bool.{eqb-true}
use Rattle.std.proofs.lemmas.Bool.Decides.{nat_tests}
use Rattle.std.specs.List.{cons_option, range_with_len}
use Rattle.ps_rules.specs.Choices.{head_of}

-- what comes of the first number of which something does
pub head-at : {A : Type 0} (f : ℕ → Option A) (a n r : ℕ) (x : A) → ((k : ℕ) → k < r → f k ≡ None) → a ≤ r → r < a + n → f r ≡ Some x
    → head_of (filter_map f (range_with_len a n)) ≡ Some x
head-at f a zero r x none low high here = absurd (omega (arith, low, high))
head-at f a (suc n) r x none low high here =
    let rest = filter_map f (range_with_len (a + 1) n) in
    let cases : (t : Bool) → (a == r) ≡ t → head_of (cons_option (f a) rest) ≡ Some x =
    λ t. elim t as (λ t. (a == r) ≡ t → head_of (cons_option (f a) rest) ≡ Some x) [
      | true ↦ λ is. ap (λ o. head_of (cons_option o rest)) (ap f (eqb-true a r is) ∙ here)
      | false ↦ λ is.
          let later : a < r = grind (arith, nat_tests, is, low) in
          ap (λ o. head_of (cons_option o rest)) (none a later) ∙ head-at f (a + 1) n r x none (omega (arith, later)) (omega (arith, high)) here
    ] in
    cases (a == r) refl

-- where nothing comes of any there is none
pub head-nowhere : {A : Type 0} (f : ℕ → Option A) (a n : ℕ) → ((k : ℕ) → k < a + n → f k ≡ None) → head_of (filter_map f (range_with_len a n)) ≡ None
head-nowhere f a zero none = refl
head-nowhere f a (suc n) none =
    ap (λ o. head_of (cons_option o (filter_map f (range_with_len (a + 1) n)))) (none a (omega arith))
    ∙ head-nowhere f (a + 1) n (λ k lt. none k (omega (arith, lt)))
