-- What stands at the first place that passes.
use Rattle.std.proofs.Common.{◌≡◌, ℕ, ◌+◌, ◌≤◌, suc, Bool, true, false, cond, List, [], ◌∷◌, ◌++◌, length, Option, Some, None, find, position, nat_lt, slice_get, refl, sym, ap, ◌∙◌, arith, add-zero, zero-add, Bor, is_some, option_map, ◌||◌}
use Rattle.std.specs.List.{position_or_len, position_from, list_any}
use Rattle.std.specs.Option.{option_or, option_copied}
use Rattle.std.specs.Slice.{IsGetResult}
use Rattle.std.proofs.lemmas.List.Folds.{find_at}
use Rattle.std.proofs.lemmas.Option.{slice_get_past, slice_get_read}
use Rattle.std.proofs.lemmas.Iterator.Adapters.{position_from-zero}
use Rattle.std.proofs.lemmas.Bool.Decides.{nat_tests}

none_past : (n m : ℕ) → cond (nat_lt n m) (Some n) None ≡ None → m ≤ n
none_past n m h = grind (arith, nat_tests)

some_within : (n m i : ℕ) → cond (nat_lt n m) (Some n) None ≡ Some i → n ≡ i
some_within n m i h = grind (arith, nat_tests)

-- no place, no element
pub find_nowhere : {X : Type 0} (p : X → Bool) (xs : List X) → position p xs ≡ None → find p xs ≡ None
find_nowhere p xs h = find_at p xs ∙ slice_get_past xs (position_or_len p xs) (none_past (position_or_len p xs) (length xs) h)

-- the element at the place
pub find_there : {X : Type 0} (p : X → Bool) (xs : List X) (i : ℕ) → position p xs ≡ Some i → find p xs ≡ slice_get xs i
find_there p xs i h = find_at p xs ∙ ap (slice_get xs) (some_within (position_or_len p xs) (length xs) i h)

-- where one more element comes, counted from k
position_from-push : {X : Type 0} (p : X → Bool) (k : ℕ) (xs : List X) (y : X) → position_from p k (xs ++ y ∷ []) ≡ option_or (position_from p k xs) (cond (p y) (Some (k + length xs)) None)
position_from-push p k [] y = rw add-zero refl
position_from-push p k (x ∷ xs) y =
    let e : k + 1 + length xs ≡ k + suc (length xs) = omega arith in
    elim (p x) as (λ b. cond b (Some k) (position_from p (k + 1) (xs ++ y ∷ [])) ≡ option_or (cond b (Some k) (position_from p (k + 1) xs)) (cond (p y) (Some (k + suc (length xs))) None)) [
      | true ↦ refl
      | false ↦ rw (← e) (position_from-push p (k + 1) xs y)
    ]

-- one more element is the first that passes only where none did before
pub position-push : {X : Type 0} (p : X → Bool) (xs : List X) (y : X) → position p (xs ++ y ∷ []) ≡ option_or (position p xs) (cond (p y) (Some (length xs)) None)
position-push p xs y =
    position_from-zero p (xs ++ y ∷ []) ∙ (position_from-push p 0 xs y ∙ (ap (λ (o : Option ℕ). option_or o (cond (p y) (Some (0 + length xs)) None)) (sym (position_from-zero p xs))
    ∙ ap (λ (k : ℕ). option_or (position p xs) (cond (p y) (Some k) None)) (zero-add (length xs))))

-- what `get` answers
pub got : {X : Type 0} (xs : List X) (i : ℕ) (r : Option (Bor X)) → IsGetResult xs i i r → option_copied r ≡ slice_get xs i
got xs i None h = sym (slice_get_past xs i h.3)
got xs i (Some x) h = sym (slice_get_read xs (length xs) i x.now refl h.3.0 h.1)

-- an element is found where one passes
pub is_some-find : {X Y : Type 0} (p : X → Bool) (f : X → Y) (xs : List X) → is_some (option_map f (find p xs)) ≡ list_any p xs
is_some-find p f [] = refl
is_some-find {Y} p f (x ∷ xs) =
    elim (p x) as (λ b. is_some {T = Y} (option_map f (cond b (Some x) (find p xs))) ≡ (b || list_any p xs)) [
      | true ↦ refl
      | false ↦ is_some-find p f xs
    ]
