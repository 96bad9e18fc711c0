-- What holds of each item of a list and each later one.
use Rattle.std.proofs.Common.{◌≡◌, suc, Bool, true, false, cond, List, [], ◌∷◌, ◌++◌, map, filter, arith}
use Rattle.std.specs.Prelude.{⊤}
use Rattle.std.specs.List.{All, AllByRecursion, AllPairs, flat_map}
use Rattle.std.specs.List.Sorted.{IsStrictlySortedBy}
use Rattle.std.specs.declared.cmp.Ordering.{Ordering}
use Rattle.std.specs.declared.cmp.Ordering.TheVariants.{Less}
use Rattle.std.proofs.lemmas.List.Elements.{recursion_from_All}

-- R holds of each item and each later one, by recursion on the list
abbrev pub Pairs : {X : Type 0} → (X → X → Type 0) → List X → Type 0
Pairs R [] = ⊤
Pairs R (x ∷ xs) = AllByRecursion (R x) xs × Pairs R xs

-- ---- what holds of each item

module _ {X : Type 0} (P : X → Type 0) where
  pub each : ((x : X) → P x) → (xs : List X) → AllByRecursion P xs
  each h [] = tt
  each h (x ∷ xs) = (h x, each h xs)

  pub each_of_both : (xs ys : List X) → AllByRecursion P xs → AllByRecursion P ys → AllByRecursion P (xs ++ ys)
  each_of_both [] ys a b = b
  each_of_both (x ∷ xs) ys a b = (a.0, each_of_both xs ys a.1 b)

  kept_at : (p : X → Bool) (x : X) (xs : List X) (b : Bool) → P x → AllByRecursion P (filter p xs) → AllByRecursion P (cond b (x ∷ filter p xs) (filter p xs))
  kept_at p x xs true h a = (h, a)
  kept_at p x xs false h a = a

  pub each_kept : (p : X → Bool) (xs : List X) → AllByRecursion P xs → AllByRecursion P (filter p xs)
  each_kept p [] a = tt
  each_kept p (x ∷ xs) a = kept_at p x xs (p x) a.0 (each_kept p xs a.1)

  pub each_mapped : {Y : Type 0} (f : Y → X) (ys : List Y) → AllByRecursion (λ y. P (f y)) ys → AllByRecursion P (map f ys)
  each_mapped f [] a = tt
  each_mapped f (y ∷ ys) a = (a.0, each_mapped f ys a.1)

  pub each_piece : {Y : Type 0} (F : Y → List X) (ys : List Y) → AllByRecursion (λ y. AllByRecursion P (F y)) ys → AllByRecursion P (flat_map F ys)
  each_piece F [] a = tt
  each_piece F (y ∷ ys) a = each_of_both (F y) (flat_map F ys) a.0 (each_piece F ys a.1)

pub each_weaker : {X : Type 0} (P Q : X → Type 0) → ((x : X) → P x → Q x) → (xs : List X) → AllByRecursion P xs → AllByRecursion Q xs
each_weaker P Q h [] a = tt
each_weaker P Q h (x ∷ xs) a = (h x a.0, each_weaker P Q h xs a.1)

pub each_of_two : {X : Type 0} (P Q R : X → Type 0) → ((x : X) → P x → Q x → R x) → (xs : List X) → AllByRecursion P xs → AllByRecursion Q xs → AllByRecursion R xs
each_of_two P Q R h [] a b = tt
each_of_two P Q R h (x ∷ xs) a b = (h x a.0 b.0, each_of_two P Q R h xs a.1 b.1)

-- ---- what holds of pairs

module _ {X : Type 0} (R : X → X → Type 0) where
  pub pairs_from_AllPairs : (xs : List X) → AllPairs R xs → Pairs R xs
  pairs_from_AllPairs [] h = tt
  pairs_from_AllPairs (x ∷ xs) h =
      let first : All (R x) xs = λ k d within. h 0 (suc k) d (omega arith) (omega arith) in
      (recursion_from_All (R x) xs first, pairs_from_AllPairs xs (λ i j d lt within. h (suc i) (suc j) d (omega arith) (omega arith)))

  pub pairs_of_both : (xs ys : List X) → Pairs R xs → Pairs R ys → AllByRecursion (λ x. AllByRecursion (R x) ys) xs → Pairs R (xs ++ ys)
  pairs_of_both [] ys p q a = q
  pairs_of_both (x ∷ xs) ys p q a = (each_of_both (R x) xs ys p.0 a.0, pairs_of_both xs ys p.1 q a.1)

  pairs_kept_at : (p : X → Bool) (x : X) (xs : List X) (b : Bool) → AllByRecursion (R x) xs → Pairs R (filter p xs) → Pairs R (cond b (x ∷ filter p xs) (filter p xs))
  pairs_kept_at p x xs true a q = (each_kept (R x) p xs a, q)
  pairs_kept_at p x xs false a q = q

  pub pairs_kept : (p : X → Bool) (xs : List X) → Pairs R xs → Pairs R (filter p xs)
  pairs_kept p [] q = tt
  pairs_kept p (x ∷ xs) q = pairs_kept_at p x xs (p x) q.0 (pairs_kept p xs q.1)

  pub pairs_mapped : {Y : Type 0} (f : Y → X) (ys : List Y) → Pairs (λ x y. R (f x) (f y)) ys → Pairs R (map f ys)
  pairs_mapped f [] q = tt
  pairs_mapped f (y ∷ ys) q = (each_mapped (R (f y)) f ys q.0, pairs_mapped f ys q.1)

  later_pieces : {Y : Type 0} (F : Y → List X) (xs : List X) (ys : List Y) → AllByRecursion (λ y. AllByRecursion (λ x. AllByRecursion (R x) (F y)) xs) ys → AllByRecursion (λ x. AllByRecursion (R x) (flat_map F ys)) xs
  later_pieces F [] ys a = tt
  later_pieces {Y} F (x ∷ xs) ys a = (
    each_piece (R x) F ys (each_weaker (λ y. AllByRecursion (λ x. AllByRecursion (R x) (F y)) (x ∷ xs)) (λ y. AllByRecursion (R x) (F y)) (λ y h. h.0) ys a),
    later_pieces F xs ys (each_weaker (λ y. AllByRecursion (λ x. AllByRecursion (R x) (F y)) (x ∷ xs)) (λ y. AllByRecursion (λ x. AllByRecursion (R x) (F y)) xs) (λ y h. h.1) ys a),
  )

  pub pairs_of_pieces : {Y : Type 0} (F : Y → List X) (ys : List Y) → AllByRecursion (λ y. Pairs R (F y)) ys → Pairs (λ y z. AllByRecursion (λ x. AllByRecursion (R x) (F z)) (F y)) ys → Pairs R (flat_map F ys)
  pairs_of_pieces F [] a q = tt
  pairs_of_pieces F (y ∷ ys) a q = pairs_of_both (F y) (flat_map F ys) a.0 (pairs_of_pieces F ys a.1 q.1) (later_pieces F (F y) ys q.0)

pub pairs_weaker : {X : Type 0} (R S : X → X → Type 0) → ((x y : X) → R x y → S x y) → (xs : List X) → Pairs R xs → Pairs S xs
pairs_weaker R S h [] q = tt
pairs_weaker R S h (x ∷ xs) q = (each_weaker (R x) (S x) (h x) xs q.0, pairs_weaker R S h xs q.1)

-- the same, where something holds of each
pub pairs_weaker_with : {X : Type 0} (P : X → Type 0) (R S : X → X → Type 0) → ((x y : X) → P x → P y → R x y → S x y) → (xs : List X) → AllByRecursion P xs → Pairs R xs → Pairs S xs
pairs_weaker_with P R S h [] a q = tt
pairs_weaker_with P R S h (x ∷ xs) a q = (each_of_two P (R x) (S x) (λ y b r. h x y a.0 b r) xs a.1 q.0, pairs_weaker_with P R S h xs a.1 q.1)

pub sorted_from_pairs : {X : Type 0} (c : X → X → Ordering) (xs : List X) → Pairs (λ x y. c x y ≡ Less) xs → IsStrictlySortedBy c xs
unfolding IsStrictlySortedBy
sorted_from_pairs c [] q = tt
sorted_from_pairs c (x ∷ xs) q = (q.0, sorted_from_pairs c xs q.1)
