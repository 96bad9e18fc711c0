-- Nested lists, as trees hold them.
use Rattle.std.proofs.Common.{◌≡◌, ◌≤◌, ◌<◌, ℕ, zero, Some, None, List, [], ◌∷◌, length, map, drop, slice_index_or, refl, ap, suc, arith}
use Rattle.ps_lists.specs.Nested.{Nesteds, nesteds, none, more, rank, ranks}
use Rattle.ps_lists.specs.NestedViews.{nested}
use Rattle.ps_lists.specs.Places.{at, count, rest}
use Rattle.ps_lists.specs.declared.trees.Tree.{Tree}

pub length-count : (ts : List Tree) → length ts ≡ count (nesteds (map nested ts))
length-count [] = refl
length-count (t ∷ ts) = ap suc (length-count ts)

pub rest-drop : (ts : List Tree) → nesteds (map nested (drop 1 ts)) ≡ rest (nesteds (map nested ts))
rest-drop [] = refl
rest-drop (t ∷ ts) = refl

-- a list of just two, of which this is the second
pub pair : (ts : List Tree) (b : Tree) → length ts ≡ 2 → b ≡ slice_index_or ts 1 b → nesteds (map nested ts) ≡ more (nested (slice_index_or ts 0 b)) (more (nested b) none)
pair [] b h q = absurd (omega (arith, h))
pair (t ∷ []) b h q = absurd (omega (arith, h))
pair (t ∷ u ∷ []) b h q = rw q refl
pair (t ∷ u ∷ v ∷ ts) b h q = absurd (omega (arith, h))

-- a list with at least two, of which this is the second
pub second : (ts : List Tree) (b : Tree) → 2 ≤ length ts → b ≡ slice_index_or ts 1 b → nesteds (map nested ts) ≡ more (nested (slice_index_or ts 0 b)) (more (nested b) (nesteds (map nested (drop 2 ts))))
second [] b h q = absurd (omega (arith, h))
second (t ∷ []) b h q = absurd (omega (arith, h))
second (t ∷ u ∷ ts) b h q = rw q refl

-- a list with at least three, of which these are the second and the third
pub third : (ts : List Tree) (b c : Tree) → 3 ≤ length ts → b ≡ slice_index_or ts 1 b → c ≡ slice_index_or ts 2 c → nesteds (map nested ts) ≡ more (nested (slice_index_or ts 0 b)) (more (nested b) (more (nested c) (nesteds (map nested (drop 3 ts)))))
third [] b c h q r = absurd (omega (arith, h))
third (t ∷ []) b c h q r = absurd (omega (arith, h))
third (t ∷ u ∷ []) b c h q r = absurd (omega (arith, h))
third (t ∷ u ∷ v ∷ ts) b c h q r = rw (q, r) refl

-- what stands in a list is no deeper than the list
pub second-rank : (ts : List Tree) (b : Tree) → 2 ≤ length ts → b ≡ slice_index_or ts 1 b → rank (nested b) ≤ ranks (nesteds (map nested ts))
second-rank ts b h q = rw (second ts b h q) (omega arith)

pub third-rank : (ts : List Tree) (b c : Tree) → 3 ≤ length ts → b ≡ slice_index_or ts 1 b → c ≡ slice_index_or ts 2 c → rank (nested c) ≤ ranks (nesteds (map nested ts))
third-rank ts b c h q r = rw (third ts b c h q r) (omega arith)

pub rest-rank : (ts : Nesteds) → ranks (rest ts) ≤ ranks ts
rest-rank none = omega arith
rest-rank (more t ts) = omega arith

-- the item at a place is no deeper than the list
pub item-rank : (ts : List Tree) (i : ℕ) (t : Tree) → i < length ts → t ≡ slice_index_or ts i t → rank (nested t) ≤ ranks (nesteds (map nested ts))
item-rank [] i t h p = absurd (omega (arith, h))
item-rank (u ∷ us) zero t h p = rw p (omega arith)
item-rank (u ∷ us) (suc i) t h p = omega (arith, item-rank us i t (omega (arith, h)) p)

-- what is left from a place on is the item there and what is left after it
pub from-item : (ts : List Tree) (i : ℕ) (t : Tree) → i < length ts → t ≡ slice_index_or ts i t → nesteds (map nested (drop i ts)) ≡ more (nested t) (nesteds (map nested (drop (suc i) ts)))
from-item [] i t h p = absurd (omega (arith, h))
from-item (u ∷ us) zero t h p = rw p refl
from-item (u ∷ us) (suc i) t h p = from-item us i t (omega (arith, h)) p

pub at-here : (ts : List Tree) (i : ℕ) (t : Tree) → i < length ts → t ≡ slice_index_or ts i t → Some (nested t) ≡ at (nesteds (map nested ts)) i
at-here [] i t h p = absurd (omega (arith, h))
at-here (u ∷ us) zero t h p = rw p refl
at-here (u ∷ us) (suc i) t h p = at-here us i t (omega (arith, h)) p

pub at-past : (ts : List Tree) (i : ℕ) → length ts ≤ i → None ≡ at (nesteds (map nested ts)) i
at-past [] i h = refl
at-past (u ∷ us) zero h = absurd (omega (arith, h))
at-past (u ∷ us) (suc i) h = at-past us i (omega (arith, h))
