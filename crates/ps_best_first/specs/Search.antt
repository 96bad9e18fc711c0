-- A search that expands first what misses the fewest marks, over the states of a prepared problem.
use Rattle.std.specs.Prelude.{◌≡◌, ◌≤◌, ℕ, false, List, [], ◌∷◌, length}
use Rattle.std.specs.List.{AllZip}
use Rattle.ps_world.specs.declared.facts.Fact.{Fact}
use Rattle.ps_world.specs.declared.known.Knowledge.{Knowledge}
use Rattle.ps_action.specs.Search.{possible_acts}
use Rattle.ps_ground.specs.Moves.{Node}
use Rattle.ps_ground.specs.States.{at}
use Rattle.ps_solve.specs.Stores.{AreKept, nodes_in}
use Rattle.ps_solve.specs.declared.rows.Row.{Row}
use Rattle.ps_solve.specs.declared.task.Task.{Task}
use Rattle.ps_greedy.specs.Greedy.{Spot, greedy_from, missing_in}
use Rattle.ps_greedy.specs.declared.found.Found.{Found}
use Rattle.ps_best_first.specs.declared.leaves.Leaf.{Leaf}

-- a node as the definition of the search has it: its state, the acts that lead there, and what is kept of it
abbrev pub spot_of : Knowledge → Node → Leaf → Spot
spot_of k n l = record { known = at k n.state; path = n.path; missing = l.missing; expanded = l.expanded }

-- several
abbrev pub spots_of : Knowledge → List Node → List Leaf → List Spot
spots_of k [] ls = []
spots_of k (n ∷ ns) [] = []
spots_of k (n ∷ ns) (l ∷ ls) = spot_of k n l ∷ spots_of k ns ls

-- as many acts lead to each node as is kept of it
abbrev pub AreDeep : List Node → List Leaf → Type 0
AreDeep ns ls = AllZip (λ n l. l.depth ≡ length n.path) ns ls

-- what is kept of a node to which so many acts lead, where these marks were missing before
abbrev pub leaf_of : Knowledge → ℕ → List Fact → Node → Leaf
leaf_of k depth marks n = record { depth = depth; missing = missing_in (at k n.state) marks; expanded = false }

-- a search with this budget goes on from these states, with what is kept of their nodes
pub record IsSearch (t : Task) (budget : ℕ) (reached : List (Row × List ℕ)) (ls : List Leaf) : Type 0 where
  pub kept : AreKept t reached
  pub deep : AreDeep (nodes_in t reached) ls
  pub room : length reached ≤ budget

-- what is found from there, with so many expansions more
abbrev pub found_from : Task → ℕ → ℕ → List (Row × List ℕ) → List Leaf → Found
found_from t budget more reached ls =
    greedy_from t.expert.now (possible_acts t.expert.now t.problem.now) t.goal.now budget more (spots_of t.problem.now (nodes_in t reached) ls)
