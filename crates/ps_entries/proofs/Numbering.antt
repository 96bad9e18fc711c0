-- Two lists of one length, as one list of both.
use Rattle.std.proofs.Common.{◌≡◌, ℕ, suc, List, [], ◌∷◌, ◌++◌, length, map, refl, ap, arith}
use Rattle.std.specs.List.{zip}

module _ {A B : Type 0} where
  -- one more of each
  pub zip-push : (xs : List A) (ys : List B) (x : A) (y : B) → length xs ≡ length ys → zip (xs ++ x ∷ []) (ys ++ y ∷ []) ≡ zip xs ys ++ (x, y) ∷ []
  zip-push [] [] x y h = refl
  zip-push [] (b ∷ ys) x y h = absurd (omega (arith, h))
  zip-push (a ∷ xs) [] x y h = absurd (omega (arith, h))
  zip-push (a ∷ xs) (b ∷ ys) x y h = ap (λ zs. (a, b) ∷ zs) (zip-push xs ys x y (omega (arith, h)))

  -- those of the first list, and those of the second
  pub zip-firsts : (xs : List A) (ys : List B) → length xs ≡ length ys → xs ≡ map (λ e. e.0) (zip xs ys)
  zip-firsts [] [] h = refl
  zip-firsts [] (b ∷ ys) h = absurd (omega (arith, h))
  zip-firsts (a ∷ xs) [] h = absurd (omega (arith, h))
  zip-firsts (a ∷ xs) (b ∷ ys) h = ap (λ zs. a ∷ zs) (zip-firsts xs ys (omega (arith, h)))

  pub zip-seconds : (xs : List A) (ys : List B) → length xs ≡ length ys → ys ≡ map (λ e. e.1) (zip xs ys)
  zip-seconds [] [] h = refl
  zip-seconds [] (b ∷ ys) h = absurd (omega (arith, h))
  zip-seconds (a ∷ xs) [] h = absurd (omega (arith, h))
  zip-seconds (a ∷ xs) (b ∷ ys) h = ap (λ zs. b ∷ zs) (zip-seconds xs ys (omega (arith, h)))
