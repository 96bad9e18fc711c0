-- The first of a list are kept, as it grows.
use Rattle.std.proofs.Common.{◌≡◌, ◌+◌, ◌≤◌, ℕ, zero, suc, List, [], ◌∷◌, ◌++◌, length, take, arith, refl, ap, ◌∙◌}
use Rattle.std.proofs.lemmas.List.{take_all, take-append-le}

-- where enough are kept, one more is not
pub kept_all : {A : Type 0} (kept : List A) (n : ℕ) (x : A) → length kept ≡ n → kept ≡ take n (kept ++ x ∷ [])
kept_all kept n x e =
    let cut : take n (kept ++ x ∷ []) ≡ take n kept = take-append-le n kept (x ∷ []) (omega (arith, e)) in
    let all : take n kept ≡ kept = take_all n kept (omega (arith, e)) in
    rw (cut, all) refl

-- of the first ones with one more the first are those of all with one more
pub take-kept : {A : Type 0} (n : ℕ) (before : List A) (x : A) → take n (take n before ++ x ∷ []) ≡ take n (before ++ x ∷ [])
take-kept zero before x = refl
take-kept (suc n) [] x = refl
take-kept (suc n) (y ∷ before) x = ap (λ ys. y ∷ ys) (take-kept n before x)

-- the first ones, when one more is kept
pub kept_more : {A : Type 0} (n : ℕ) (before kept : List A) (x : A) (now : List A) → kept ≡ take n before → now ≡ take n (kept ++ x ∷ []) → now ≡ take n (before ++ x ∷ [])
kept_more n before kept x now e h = h ∙ (rw e (take-kept n before x))
