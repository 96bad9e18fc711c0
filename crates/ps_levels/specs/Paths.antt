-- Paths to nodes, each of which but the first was reached by one step from an earlier one.
use Rattle.std.specs.Prelude.{ℕ, ◌<◌, ◌≤◌, List, [], ◌∷◌, ◌++◌, length, slice_index_or}

-- the paths to these nodes and then to those that these steps lead to: the place of the node before, and what leads on from it
abbrev pub paths_after : List (List ℕ) → List (ℕ × ℕ) → List (List ℕ)
paths_after done [] = done
paths_after done (s ∷ steps) = paths_after (done ++ (slice_index_or done s.0 [] ++ s.1 ∷ []) ∷ []) steps

-- the paths to all nodes, the first of which is where all begins
abbrev pub paths : List (ℕ × ℕ) → List (List ℕ)
paths steps = paths_after ([] ∷ []) steps

-- each step begins at a node before the one that it leads to
abbrev pub IsTrail : List (ℕ × ℕ) → Type 0
IsTrail steps = (i : ℕ) → i < length steps → (slice_index_or steps i (0, 0)).0 ≤ i
