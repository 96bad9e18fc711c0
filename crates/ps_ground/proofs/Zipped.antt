-- Two lists, item by item.
use Rattle.std.proofs.Common.{◌≡◌, suc, List, [], ◌∷◌, ◌++◌, length, map, refl, ap, arith}
use Rattle.std.specs.List.{zip}

module _ {A B : Type 0} where
  pub zip_firsts : (xs : List A) (ys : List B) → length xs ≡ length ys → map (λ (p : A × B). p.0) (zip xs ys) ≡ xs
  zip_firsts [] ys e = refl
  zip_firsts (x ∷ xs) [] e = absurd (omega (arith, e))
  zip_firsts (x ∷ xs) (y ∷ ys) e = ap (λ l. x ∷ l) (zip_firsts xs ys (omega (arith, e)))

  pub zip_seconds : (xs : List A) (ys : List B) → length xs ≡ length ys → map (λ (p : A × B). p.1) (zip xs ys) ≡ ys
  zip_seconds [] [] e = refl
  zip_seconds [] (y ∷ ys) e = absurd (omega (arith, e))
  zip_seconds (x ∷ xs) [] e = absurd (omega (arith, e))
  zip_seconds (x ∷ xs) (y ∷ ys) e = ap (λ l. y ∷ l) (zip_seconds xs ys (omega (arith, e)))

  pub length-zip : (xs : List A) (ys : List B) → length xs ≡ length ys → length (zip xs ys) ≡ length xs
  length-zip [] ys e = refl
  length-zip (x ∷ xs) [] e = absurd (omega (arith, e))
  length-zip (x ∷ xs) (y ∷ ys) e = ap suc (length-zip xs ys (omega (arith, e)))

  pub zip-push : (xs : List A) (ys : List B) (x : A) (y : B) → length xs ≡ length ys → zip (xs ++ x ∷ []) (ys ++ y ∷ []) ≡ zip xs ys ++ (x, y) ∷ []
  zip-push [] [] x y e = refl
  zip-push [] (b ∷ ys) x y e = absurd (omega (arith, e))
  zip-push (a ∷ xs) [] x y e = absurd (omega (arith, e))
  zip-push (a ∷ xs) (b ∷ ys) x y e = ap (λ l. (a, b) ∷ l) (zip-push xs ys x y (omega (arith, e)))
