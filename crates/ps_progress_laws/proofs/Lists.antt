-- What stands in lists.
use Rattle.std.proofs.Common.{◌≡◌, ℕ, zero, suc, ◌+◌, ◌<◌, ◌≤◌, ◌||◌, Bool, true, false, Some, None, List, [], ◌∷◌, ◌++◌, find, flat_map, map, refl, arith, ap, sym, ◌∙◌, subst, inl, inr, ◌⊎◌}
use Rattle.std.specs.List.{list_all, list_any, range_with_len}
use Rattle.std.proofs.lemmas.Bool.{and_from, or_cases, or_parts, and_parts}
use Rattle.ps_progress_laws.proofs.Picking.{by_test}

-- that a value is one of a list
abbrev pub In : {A : Type 0} → A → List A → Type 0
In x [] = ⊥
In x (y ∷ ys) = (x ≡ y) ⊎ In x ys

-- what stands in the first of two lists stands in and_parts together
pub in_left : {A : Type 0} (x : A) (xs ys : List A) → In x xs → In x (xs ++ ys)
in_left x [] ys h = absurd h
in_left x (y ∷ xs) ys (inl e) = inl e
in_left x (y ∷ xs) ys (inr h) = inr (in_left x xs ys h)

-- and so does what stands in the second
pub in_right : {A : Type 0} (x : A) (xs ys : List A) → In x ys → In x (xs ++ ys)
in_right x [] ys h = h
in_right x (y ∷ xs) ys h = inr (in_right x xs ys h)

-- what comes of an item stands among what comes of all
pub in_map : {A B : Type 0} (f : A → B) (x : A) (xs : List A) → In x xs → In (f x) (map f xs)
in_map f x [] h = absurd h
in_map f x (y ∷ xs) (inl e) = inl (ap f e)
in_map f x (y ∷ xs) (inr h) = inr (in_map f x xs h)

-- the same of lists
pub in_flat : {A B : Type 0} (f : A → List B) (x : A) (b : B) (xs : List A) → In x xs → In b (f x) → In b (flat_map f xs)
in_flat f x b [] h g = absurd h
in_flat f x b (y ∷ xs) (inl e) g = in_left b (f y) (flat_map f xs) (subst (λ z. In b (f z)) e g)
in_flat f x b (y ∷ xs) (inr h) g = in_right b (f y) (flat_map f xs) (in_flat f x b xs h g)

-- a number from the start on and below the end stands in a range
pub in_range : (j start n : ℕ) → start ≤ j → j < start + n → In j (range_with_len start n)
in_range j start zero low high = absurd (omega (arith, low, high))
in_range j start (suc n) low high =
    elim (same_or start j low) [ inl e ↦ inl (sym e) | inr l ↦ inr (in_range j (start + 1) n (omega (arith, l)) (omega (arith, high))) ]
  where
    same_or : (i j : ℕ) → i ≤ j → (i ≡ j) ⊎ (i < j)
    same_or i j m = grind arith

-- and no other does
pub range_in : (j start n : ℕ) → In j (range_with_len start n) → (start ≤ j) × (j < start + n)
range_in j start zero h = absurd h
range_in j start (suc n) (inl e) = (omega (arith, e), omega (arith, e))
range_in j start (suc n) (inr h) = let w = range_in j (start + 1) n h in ((let l = w.0 in omega (arith, l)), (let l = w.1 in omega (arith, l)))

-- where none is found none passes
pub find_none : {A : Type 0} (test : A → Bool) (xs : List A) → find test xs ≡ None → (x : A) → In x xs → test x ≡ false
find_none test [] e x h = absurd h
find_none test (y ∷ ys) e x h =
    by_test (test y)
    (λ t. absurd (let f = rw t at e in cc))
    (λ t. elim h [ inl s ↦ ap test s ∙ t | inr g ↦ find_none test ys (rw t at e) x g ])

-- what is found stands in the list and passes
pub found_in : {A : Type 0} (test : A → Bool) (xs : List A) (x : A) → find test xs ≡ Some x → In x xs × (test x ≡ true)
found_in test [] x e = absurd (cc)
found_in test (y ∷ ys) x e =
    by_test (test y)
    (λ t. let same : y ≡ x = (let f = rw t at e in cc) in (inl (sym same), ap test (sym same) ∙ t))
    (λ t. let w = found_in test ys x (rw t at e) in (inr w.0, w.1))

-- what all pass each passes
pub all_in : {A : Type 0} (test : A → Bool) (xs : List A) → list_all test xs ≡ true → (x : A) → In x xs → test x ≡ true
all_in test [] e x h = absurd h
all_in test (y ∷ ys) e x (inl s) = ap test s ∙ (and_parts (test y) (list_all test ys) e).0
all_in test (y ∷ ys) e x (inr h) = all_in test ys (and_parts (test y) (list_all test ys) e).1 x h

-- where some item passes there is one
pub any_in : {A : Type 0} (test : A → Bool) (xs : List A) → list_any test xs ≡ true → (x : A) × In x xs × (test x ≡ true)
any_in test [] e = absurd (cc)
any_in test (y ∷ ys) e =
    elim (or_cases (test y) (list_any test ys) e) [ inl t ↦ (y, inl refl, t) | inr later ↦ let w = any_in test ys later in (w.0, inr w.1, w.2) ]

-- where none passes each fails
pub none_in : {A : Type 0} (test : A → Bool) (xs : List A) → list_any test xs ≡ false → (x : A) → In x xs → test x ≡ false
none_in test [] e x h = absurd h
none_in test (y ∷ ys) e x (inl s) = ap test s ∙ (or_parts (test y) (list_any test ys) e).0
none_in test (y ∷ ys) e x (inr h) = none_in test ys (or_parts (test y) (list_any test ys) e).1 x h

-- where one passes some do
pub in_any : {A : Type 0} (test : A → Bool) (xs : List A) (x : A) → In x xs → test x ≡ true → list_any test xs ≡ true
in_any test [] x h t = absurd h
in_any test (y ∷ ys) x (inl s) t = ap (λ b. b || list_any test ys) (sym (ap test s) ∙ t)
in_any test (y ∷ ys) x (inr h) t = by_test (test y) (λ e. ap (λ b. b || list_any test ys) e) (λ e. ap (λ b. b || list_any test ys) e ∙ in_any test ys x h t)

-- what each passes all pass
pub in_all : {A : Type 0} (test : A → Bool) (xs : List A) → ((x : A) → In x xs → test x ≡ true) → list_all test xs ≡ true
in_all test [] h = refl
in_all test (y ∷ ys) h = and_from (test y) (list_all test ys) (h y (inl refl)) (in_all test ys (λ x g. h x (inr g)))

-- all pass, or there is one that fails
pub all_or : {A : Type 0} (test : A → Bool) (xs : List A) → (list_all test xs ≡ true) ⊎ ((x : A) × In x xs × (test x ≡ false))
all_or test [] = inl refl
all_or test (y ∷ ys) =
    by_test (test y)
    (λ e. elim (all_or test ys) [ inl a ↦ inl (and_from (test y) (list_all test ys) e a) | inr w ↦ inr (w.0, inr w.1, w.2) ])
    (λ e. inr (y, inl refl, e))
