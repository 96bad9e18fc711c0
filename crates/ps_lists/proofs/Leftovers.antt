-- A list that is used up from its front, where what is left of it is kept the other way round.
use Rattle.std.proofs.Common.{◌≡◌, ℕ, ◌+◌, ◌<◌, ◌≤◌, List, [], ◌∷◌, ◌++◌, drop, length, reverse, slice_index_or, ◌∙◌, ap, sym, arith, length-drop}
use Rattle.std.proofs.lemmas.List.{drop_more, reverse-append}

-- the last of those that are left is next
pub next_left : {A : Type 0} (all left : List A) (x : A) → all ≡ left ++ x ∷ [] → reverse all ≡ x ∷ reverse left
next_left all left x e = ap reverse e ∙ reverse-append left (x ∷ [])

-- this element is at this place, and those that are left follow it
pub record IsNext {A : Type 0} (xs : List A) (i : ℕ) (x : A) (more : List A) : Type 0 where
  pub within : i < length xs
  pub here : x ≡ slice_index_or xs i x
  pub after : drop (i + 1) xs ≡ more

next_at : {A : Type 0} (xs : List A) (i : ℕ) (x : A) (more : List A) → drop i xs ≡ x ∷ more → IsNext xs i x more
next_at xs i x more e =
    let within : i < length xs = omega (arith, ap length e, length-drop i xs) in
    let parts : slice_index_or xs i x ∷ drop (i + 1) xs ≡ x ∷ more = sym (drop_more xs i x within) ∙ e in
    record { within = within; here = cc; after = cc }

pub is_next : {A : Type 0} (xs all left : List A) (i : ℕ) (x : A) → drop i xs ≡ reverse all → all ≡ left ++ x ∷ [] → IsNext xs i x (reverse left)
is_next xs all left i x d e = next_at xs i x (reverse left) (d ∙ next_left all left x e)

-- where none is left, all are used up
pub used_up : {A : Type 0} (xs left : List A) (i : ℕ) → length left ≡ 0 → drop i xs ≡ reverse left → length xs ≤ i
used_up xs [] i none d = omega (arith, ap length d, length-drop i xs)
used_up xs (x ∷ left) i none d = absurd (omega (arith, none))
