-- What stands together in a list that rises, from the least of it on.
use Rattle.std.proofs.Common.{◌≡◌, Bool, true, false, not, cond, List, [], ◌∷◌, filter, refl, ap, sym, subst}
use Rattle.std.specs.List.{AllByRecursion}
use Rattle.std.specs.List.Sorted.{IsStrictlySortedBy}
use Rattle.std.specs.Cmp.{IsTotalOrder}
use Rattle.std.specs.Ordering.{is_gt}
use Rattle.std.specs.declared.cmp.Ordering.{Ordering}
use Rattle.std.specs.declared.cmp.Ordering.TheVariants.{Less}
use Rattle.std.specs.BTreeMap.Range.{range_contains}
use Rattle.std.specs.declared.ops.Bound.TheVariants.{Included, Unbounded}
use Rattle.std.proofs.lemmas.List.Kept.{IsStrictlySortedBy-filter}
use Rattle.std.proofs.lemmas.Map.Keys.{sorted_head, sorted_tail}
use Rattle.std.proofs.lemmas.Map.Views.{IsInRange-from_range_contains, range_contains-from_IsInRange}
use Rattle.ps_problem.proofs.Contained.{filter-filter}

module _ {K : Type 0} (q : K → Bool) (P : K → Type 0) (h : (x : K) → q x ≡ true → P x) where
  passed_at : (x : K) (xs : List K) (b : Bool) → q x ≡ b → AllByRecursion P (filter q xs) → AllByRecursion P (cond b (x ∷ filter q xs) (filter q xs))
  passed_at x xs true e all = (h x e, all)
  passed_at x xs false e all = all

  -- what passes a filter is what the filter says
  all_passed : (xs : List K) → AllByRecursion P (filter q xs)
  all_passed [] = tt
  all_passed (x ∷ xs) = passed_at x xs (q x) refl (all_passed xs)

pub had : (b : Bool) → not b ≡ false → b ≡ true
had true e = refl
had false e = cc

apart : (b c : Bool) → c ≡ false → (b ≡ true → c ≡ true) → b ≡ false
apart true c e h = let t : c ≡ true = h refl in cc
apart false c e h = refl

-- what is left to look at: it rises, and nothing in it stands before the least
pub record AreLeft {K : Type 0} (R : K → K → Ordering) (least : K) (xs : List K) : Type 0 where
  pub rise : IsStrictlySortedBy R xs
  pub low : AllByRecursion (λ x. is_gt (R least x) ≡ false) xs

pub fewer_left : {K : Type 0} (R : K → K → Ordering) (least y : K) (zs : List K) → AreLeft R least (y ∷ zs) → AreLeft R least zs
fewer_left R least y zs left = record { rise = sorted_tail R y zs left.rise; low = left.low.1 }

-- those that a test tells stand from the least on, and nothing else stands between them
pub record StandTogether {K : Type 0} (R : K → K → Ordering) (least : K) (q : K → Bool) : Type 0 where
  pub above : (x : K) → q x ≡ true → is_gt (R least x) ≡ false
  pub between : (x y : K) → is_gt (R least x) ≡ false → is_gt (R x y) ≡ false → q y ≡ true → q x ≡ true

module _ {K : Type 0} (R : K → K → Ordering) (least : K) (q : K → Bool) (together : StandTogether R least q) where
  none_after : (y : K) (zs : List K) → is_gt (R least y) ≡ false → q y ≡ false → AllByRecursion (λ z. R y z ≡ Less) zs → filter q zs ≡ []
  none_after y [] low other less = refl
  none_after y (z ∷ zs) low other less =
      let off : q z ≡ false = apart (q z) (q y) other (together.between y z low (ap is_gt less.0)) in rw off (none_after y zs low other less.1)

  -- after one that the test doesn't tell there is none that it does
  pub none_left : (y : K) (zs : List K) → AreLeft R least (y ∷ zs) → q y ≡ false → filter q (y ∷ zs) ≡ []
  none_left y zs left other = rw other (none_after y zs left.low.0 other (sorted_head R y zs left.rise))

  -- those from the least on
  pub from_least_on : IsTotalOrder R → (xs : List K) (low : K) → low ≡ least → IsStrictlySortedBy R xs
      → (filter q (filter (range_contains R (Included low) Unbounded) xs) ≡ filter q xs) × AreLeft R least (filter (range_contains R (Included low) Unbounded) xs)
  from_least_on total xs low e rise = (
    filter-filter q (range_contains R (Included low) Unbounded) (λ x t. range_contains-from_IsInRange total (Included low) Unbounded x (subst (λ l. is_gt (R l x) ≡ false) (sym e) (together.above x t), tt)) xs,
    record {
      rise = IsStrictlySortedBy-filter R (range_contains R (Included low) Unbounded) xs rise;
      low = all_passed (range_contains R (Included low) Unbounded) (λ x. is_gt (R least x) ≡ false) (λ x t. subst (λ l. is_gt (R l x) ≡ false) e (IsInRange-from_range_contains total (Included low) Unbounded x t).0) xs;
    },
  )
