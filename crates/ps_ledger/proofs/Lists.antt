-- Lists with an item more, and with another item at a place.
use Rattle.std.proofs.Common.{◌≡◌, ℕ, zero, suc, ◌<◌, ◌≤◌, ◌==◌, nat_lt, Bool, true, false, if◌then◌else◌, List, [], ◌∷◌, ◌++◌, length, slice_index_or, slice_set, refl, arith, ap, ◌∙◌}
use Rattle.std.proofs.lemmas.Bool.{eqb-true}
use Rattle.std.proofs.lemmas.Bool.Decides.{nat_tests}
use Rattle.std.proofs.lemmas.List.{get_or-set_same, get_or-set_other}
use Rattle.ps_ledger.specs.Kept.{put}

suc_same : (a b : ℕ) → (a == b) ≡ (suc a == suc b)
suc_same a b = grind (arith, nat_tests)

-- nothing is past the end
pub beyond : {A : Type 0} (xs : List A) (k : ℕ) (d : A) → length xs ≤ k → slice_index_or xs k d ≡ d
beyond [] k d h = refl
beyond (x ∷ xs) zero d h = absurd (omega (arith, h))
beyond (x ∷ xs) (suc k) d h = beyond xs k d (omega (arith, h))

-- the item at a place of a list with one more
pub at-push : {A : Type 0} (xs : List A) (x : A) (k : ℕ) (d : A) → slice_index_or (xs ++ x ∷ []) k d ≡ (if k == length xs then x else slice_index_or xs k d)
at-push [] x zero d = refl
at-push [] x (suc k) d = grind (arith, nat_tests)
at-push (y ∷ ys) x zero d = grind (arith, nat_tests)
at-push (y ∷ ys) x (suc k) d = at-push ys x k d ∙ ap (λ b. if b then x else slice_index_or ys k d) (suc_same k (length ys))

-- what holds of both cases
pub by-cases : (b : Bool) {A : Type 0} (P : A → Type 0) (x y : A) → (b ≡ true → P x) → (b ≡ false → P y) → P (if b then x else y)
by-cases true P x y one other = one refl
by-cases false P x y one other = other refl

-- a default at the end changes no look-up
pub at-push-default : {A : Type 0} (xs : List A) (k : ℕ) (d : A) → slice_index_or (xs ++ d ∷ []) k d ≡ slice_index_or xs k d
at-push-default [] zero d = refl
at-push-default [] (suc k) d = refl
at-push-default (x ∷ xs) zero d = refl
at-push-default (x ∷ xs) (suc k) d = at-push-default xs k d

pub differ : (j k : ℕ) → (j == k) ≡ false → j ≡ k → ⊥
differ j k e h = grind (arith, nat_tests, e, h)

-- the item at a place of a list with another item at one
pub at-set : {A : Type 0} (xs : List A) (k j : ℕ) (x d : A) (t : Bool) → (j == k) ≡ t → k < length xs → slice_index_or (slice_set xs k x) j d ≡ (if t then x else slice_index_or xs j d)
at-set xs k j x d true e lt = ap (λ m. slice_index_or (slice_set xs k x) m d) (eqb-true j k e) ∙ get_or-set_same xs k x d lt
at-set xs k j x d false e lt = get_or-set_other xs k j x d (λ h. differ j k e h)

-- where the list has the place, that item is put there
pub put-set : {A : Type 0} (xs : List A) (k : ℕ) (x : A) → nat_lt k (length xs) ≡ true → put xs k x ≡ slice_set xs k x
put-set xs k x h = ap (λ b. if b then slice_set xs k x else xs) h
