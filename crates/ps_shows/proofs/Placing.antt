-- Two lists of one length, gone through side by side.
use Rattle.std.proofs.Common.{◌≡◌, ℕ, zero, suc, Some, List, [], ◌∷◌, ◌++◌, length, map, slice_get, take, refl, ap, sym, arith, ◌∙◌, ◌≤◌}
use Rattle.std.specs.List.{zip}
use Rattle.std.specs.Option.{option_map_or}

module _ {A B : Type 0} where
  -- one more of both
  pub zip-next : (xs : List A) (ys : List B) (k : ℕ) (x : A) (y : B) → slice_get xs k ≡ Some x → slice_get ys k ≡ Some y
      → take k (zip xs ys) ++ (x, y) ∷ [] ≡ take (suc k) (zip xs ys)
  zip-next [] ys k x y h g = absurd (cc)
  zip-next (a ∷ xs) [] k x y h g = absurd (cc)
  zip-next (a ∷ xs) (b ∷ ys) zero x y h g =
      let first : x ≡ a = ap (λ o. option_map_or (λ v. v) o a) (sym h) in
      let second : y ≡ b = ap (λ o. option_map_or (λ v. v) o b) (sym g) in
      ap (λ v. (v, y) ∷ []) first ∙ ap (λ v. (a, v) ∷ []) second
  zip-next (a ∷ xs) (b ∷ ys) (suc k) x y h g = ap (λ zs. (a, b) ∷ zs) (zip-next xs ys k x y h g)

  -- all of both
  pub zip-all : (xs : List A) (ys : List B) (n : ℕ) → length xs ≡ length ys → length ys ≤ n → take n (zip xs ys) ≡ zip xs ys
  zip-all [] ys zero h l = refl
  zip-all [] ys (suc n) h l = refl
  zip-all (a ∷ xs) [] n h l = absurd (omega (arith, h))
  zip-all (a ∷ xs) (b ∷ ys) zero h l = absurd (omega (arith, l))
  zip-all (a ∷ xs) (b ∷ ys) (suc n) h l = ap (λ zs. (a, b) ∷ zs) (zip-all xs ys n (omega (arith, h)) (omega (arith, l)))

  -- a list of pairs is its first parts beside its second ones
  pub zip-parts : (ps : List (A × B)) → zip (map (λ p. p.0) ps) (map (λ p. p.1) ps) ≡ ps
  zip-parts [] = refl
  zip-parts (p ∷ ps) = ap (λ zs. (p.0, p.1) ∷ zs) (zip-parts ps)
