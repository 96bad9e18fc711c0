-- What is kept of the nodes of a search beside their states.
use Rattle.std.specs.Prelude.{◌≡◌, ◌<◌, ◌≤◌, ◌⊎◌, ℕ, Bool, true, false, not, ◌&&◌, nat_lt, Option, Some, None, List, length, slice_get, slice_set}
use Rattle.std.specs.List.{Contains}
use Rattle.ps_action.specs.Plans.{most_acts}
use Rattle.ps_best_first.specs.declared.leaves.Leaf.{Leaf}

-- whether a node can be expanded
abbrev pub is_open : Leaf → Bool
is_open l = not l.expanded && nat_lt l.depth most_acts

-- a node that was expanded
abbrev pub shut : Leaf → Leaf
shut l = record { depth = l.depth; missing = l.missing; expanded = true }

-- a heap has how many marks each node misses that can be expanded, and its place
pub record IsHeap (ls : List Leaf) (keys : List (ℕ × ℕ)) : Type 0 where
  pub has : (i : ℕ) (l : Leaf) → slice_get ls i ≡ Some l → is_open l ≡ true → Contains keys (length l.missing, i)
  pub only : (key : ℕ × ℕ) → Contains keys key → (l : Leaf) × (slice_get ls key.1 ≡ Some l) × (is_open l ≡ true) × (length l.missing ≡ key.0)

-- of the nodes that can be expanded the first with the fewest missing marks stands at this place
pub record IsFirst (ls : List Leaf) (i : ℕ) (l : Leaf) : Type 0 where
  pub there : slice_get ls i ≡ Some l
  pub may : is_open l ≡ true
  pub fewest : (j : ℕ) (m : Leaf) → slice_get ls j ≡ Some m → is_open m ≡ true → (length l.missing < length m.missing) ⊎ ((length l.missing ≡ length m.missing) × (i ≤ j))

-- none can be expanded
abbrev pub NoneOpen : List Leaf → Type 0
NoneOpen ls = (i : ℕ) (l : Leaf) → slice_get ls i ≡ Some l → is_open l ≡ false

-- the first is taken, which then counts as expanded, or there is none
abbrev pub IsTaken : List Leaf → Option ℕ → List Leaf → Type 0
IsTaken old None new = NoneOpen old × (new ≡ old)
IsTaken old (Some i) new = (l : Leaf) × IsFirst old i l × (new ≡ slice_set old i (shut l))
