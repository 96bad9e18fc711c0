-- Differences that were reached, each with the acts that lead to it.
use Rattle.std.specs.Prelude.{◌≡◌, ℕ, suc, nat_le, ◌<◌, ◌||◌, if◌then◌else◌, List, [], ◌∷◌, ◌++◌, filter_map, length, map, slice_get, slice_index_or}
use Rattle.std.specs.List.{list_any}
use Rattle.ps_action.specs.declared.acts.Act.{Act}
use Rattle.ps_levels.specs.Paths.{paths}
use Rattle.ps_expand.specs.Orders.{same_difference}
use Rattle.ps_expand.specs.declared.differences.Difference.{Difference}

-- the acts at these places
abbrev pub acts_at : List Act → List ℕ → List Act
acts_at acts places = filter_map (slice_get acts) places

-- the acts that lead to each node
abbrev pub act_paths : List Act → List (ℕ × ℕ) → List (List Act)
act_paths acts steps = map (acts_at acts) (paths steps)

-- each of these places is below so many
abbrev pub IsWithin : ℕ → List ℕ → Type 0
IsWithin n [] = Unit {0}
IsWithin n (i ∷ is) = (i < n) × IsWithin n is

-- so it is of each of these lists
abbrev pub AreWithin : ℕ → List (List ℕ) → Type 0
AreWithin n [] = Unit {0}
AreWithin n (is ∷ iss) = IsWithin n is × AreWithin n iss

-- as many differences as nodes, an act for each step, and each place in a path is an act's
pub record AreReached (keys : List Difference) (steps : List (ℕ × ℕ)) (acts : List Act) : Type 0 where
  pub even : length keys ≡ suc (length steps)
  pub whole : length acts ≡ length steps
  pub within : AreWithin (length acts) (paths steps)

-- the differences
abbrev pub keys_in : List (Difference × List Act) → List Difference
keys_in reached = map (λ r. r.0) reached

-- the acts that lead to the difference at a place
abbrev pub path_in : List (Difference × List Act) → ℕ → List Act
path_in reached i = slice_index_or (map (λ r. r.1) reached) i []

-- those with one more, to which an act leads from the difference at a place, unless it was reached or so many are kept
abbrev pub with_difference : ℕ → List (Difference × List Act) → Difference → ℕ → Act → List (Difference × List Act)
with_difference most reached x from act =
    if nat_le most (length reached) || list_any (same_difference x) (keys_in reached) then reached else reached ++ (x, path_in reached from ++ act ∷ []) ∷ []
