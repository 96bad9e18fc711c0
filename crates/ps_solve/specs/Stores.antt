-- The store of a search: the rows that it has reached, as nodes of what is searched.
use Rattle.std.specs.Prelude.{ℕ, List, map, slice_index_or}
use Rattle.ps_levels.specs.Levels.{NoneGood, Space}
use Rattle.ps_ground.specs.Moves.{Node}
use Rattle.ps_ground.specs.States.{State}
use Rattle.ps_solve.specs.Expansions.{leads_of, meets_goal}
use Rattle.ps_solve.specs.Nodes.{root}
use Rattle.ps_solve.specs.Queue.{IsQueue, node_of}
use Rattle.ps_solve.specs.Reached.{rows_of}
use Rattle.ps_solve.specs.Rows.{AreWide}
use Rattle.ps_solve.specs.Spaces.{space}
use Rattle.ps_solve.specs.declared.rows.Row.{Row}
use Rattle.ps_solve.specs.declared.task.Task.{Task}

-- what is searched for a task
abbrev pub space_of : Task → Space Node State
space_of t = space t.expert.now t.problem.now t.goal.now

-- the nodes of rows that were reached
abbrev pub nodes_in : Task → List (Row × List ℕ) → List Node
nodes_in t reached = map (node_of t.grounds.actions.items) (leads_of t reached)

-- the node at a place
abbrev pub node_at : Task → List (Row × List ℕ) → ℕ → Node
node_at t reached i = slice_index_or (nodes_in t reached) i (root t.problem.now)

-- the rows that were reached have a flag for each atom, and are a queue of which so many are expanded
pub record IsStore (t : Task) (most expanded : ℕ) (reached : List (Row × List ℕ)) : Type 0 where
  pub wide : AreWide t.grounds.atoms (rows_of reached)
  pub queue : IsQueue t.expert.now t.problem.now t.grounds.atoms t.grounds.actions.items (meets_goal t) most expanded (leads_of t reached)

-- so it is with those that any search has reached: none of them meets the goal
pub record AreKept (t : Task) (reached : List (Row × List ℕ)) : Type 0 where
  pub wide : AreWide t.grounds.atoms (rows_of reached)
  pub none : NoneGood (space_of t) (nodes_in t reached)
