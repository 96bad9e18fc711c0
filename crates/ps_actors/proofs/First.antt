-- The first item of a list that passes a test.
use Rattle.std.proofs.Common.{◌≡◌, ℕ, zero, suc, ◌+◌, ◌<◌, ◌≤◌, ◌==◌, Bool, true, false, Option, Some, None, if◌then◌else◌, List, [], ◌∷◌, ◌++◌, filter, find, flat_map, refl, ap, sym, arith, ◌∙◌}
use Rattle.std.proofs.lemmas.Bool.{eqb-true}
use Rattle.std.proofs.lemmas.Bool.Decides.{nat_tests}
use Rattle.std.proofs.lemmas.List.Folds.{find-append}
use Rattle.std.specs.List.{range_with_len}
use Rattle.std.specs.Option.{option_or}

-- ---- one list after another

pub either-some : {A : Type 0} (p : A → Bool) (xs ys : List A) (e : A) → Some e ≡ find p xs → Some e ≡ find p (xs ++ ys)
either-some p xs ys e h = ap (λ o. option_or o (find p ys)) h ∙ sym (find-append p xs ys)

pub either-none : {A : Type 0} (p : A → Bool) (xs ys : List A) (r : Option A) → None ≡ find p xs → r ≡ find p ys → r ≡ find p (xs ++ ys)
either-none p xs ys r h k = k ∙ ap (λ o. option_or o (find p ys)) h ∙ sym (find-append p xs ys)

-- what is found passes
pub passes : {A : Type 0} (p : A → Bool) (xs : List A) (x : A) → Some x ≡ find p xs → p x ≡ true
passes p [] x e = absurd (cc)
passes p (y ∷ ys) x e =
    let cases : (b : Bool) → p y ≡ b → Some x ≡ (if b then Some y else find p ys) → p x ≡ true =
    λ b. elim b as (λ b. p y ≡ b → Some x ≡ (if b then Some y else find p ys) → p x ≡ true) [
      | true ↦ λ passed found. let same : x ≡ y = cc in ap p same ∙ passed
      | false ↦ λ failed found. passes p ys x found
    ] in
    cases (p y) refl e

-- ---- lists for each of some numbers

pub found-at : {A : Type 0} (p : A → Bool) (f : ℕ → List A) (a n r : ℕ) (e : A) → ((k : ℕ) → k < r → find p (f k) ≡ None) → a ≤ r → r < a + n → find p (f r) ≡ Some e
    → find p (flat_map f (range_with_len a n)) ≡ Some e
found-at p f a zero r e none low high here = absurd (omega (arith, low, high))
found-at p f a (suc n) r e none low high here =
    let rest = find p (flat_map f (range_with_len (a + 1) n)) in
    let cases : (t : Bool) → (a == r) ≡ t → option_or (find p (f a)) rest ≡ Some e =
    λ t. elim t as (λ t. (a == r) ≡ t → option_or (find p (f a)) rest ≡ Some e) [
      | true ↦ λ is. ap (λ o. option_or o rest) (ap (λ k. find p (f k)) (eqb-true a r is) ∙ here)
      | false ↦ λ is.
          let later : a < r = grind (arith, nat_tests, is, low) in
          ap (λ o. option_or o rest) (none a later) ∙ found-at p f (a + 1) n r e none (omega (arith, later)) (omega (arith, high)) here
    ] in
    find-append p (f a) (flat_map f (range_with_len (a + 1) n)) ∙ cases (a == r) refl

pub found-nowhere : {A : Type 0} (p : A → Bool) (f : ℕ → List A) (a n : ℕ) → ((k : ℕ) → k < a + n → find p (f k) ≡ None) → find p (flat_map f (range_with_len a n)) ≡ None
found-nowhere p f a zero none = refl
found-nowhere p f a (suc n) none =
    find-append p (f a) (flat_map f (range_with_len (a + 1) n)) ∙ ap (λ o. option_or o (find p (flat_map f (range_with_len (a + 1) n)))) (none a (omega arith))
    ∙ found-nowhere p f (a + 1) n (λ k lt. none k (omega (arith, lt)))

-- nothing is found below one number more
pub none-more : {A : Type 0} (g : ℕ → Option A) (n : ℕ) → ((k : ℕ) → k < n → g k ≡ None) → g n ≡ None → (k : ℕ) → k < n + 1 → g k ≡ None
none-more g n below here k lt =
    let cases : (t : Bool) → (k == n) ≡ t → g k ≡ None =
    λ t. elim t as (λ t. (k == n) ≡ t → g k ≡ None) [
      | true ↦ λ is. ap g (eqb-true k n is) ∙ here
      | false ↦ λ is. let less : k < n = grind (arith, nat_tests, is, lt) in below k less
    ] in
    cases (k == n) refl

filter-case : {A : Type 0} (f : ℕ → List A) (b : Bool) (x : ℕ) (ys : List ℕ) (rest : List A) → flat_map f ys ≡ rest → flat_map f (if b then x ∷ ys else ys) ≡ (if b then f x else []) ++ rest
filter-case f true x ys rest e = ap (λ zs. f x ++ zs) e
filter-case f false x ys rest e = e

pub flat-filter : {A : Type 0} (f : ℕ → List A) (q : ℕ → Bool) (xs : List ℕ) → flat_map f (filter q xs) ≡ flat_map (λ x. if q x then f x else []) xs
flat-filter f q [] = refl
flat-filter f q (x ∷ xs) = filter-case f (q x) x (filter q xs) (flat_map (λ y. if q y then f y else []) xs) (flat-filter f q xs)
