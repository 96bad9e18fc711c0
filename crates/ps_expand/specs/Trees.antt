-- The nodes of a search whose states are kept as differences.
use Rattle.std.specs.Prelude.{◌≡◌, ℕ, ◌+◌, ◌≤◌, Some, List, [], ◌∷◌, ◌++◌, map, slice_get}
use Rattle.ps_world.specs.declared.conditions.Cond.{Cond}
use Rattle.ps_world.specs.declared.domains.Domain.{Domain}
use Rattle.ps_world.specs.declared.known.Knowledge.{Knowledge}
use Rattle.ps_world.specs.declared.names.Name.{Name}
use Rattle.ps_action.specs.Search.{same_known}
use Rattle.ps_action.specs.declared.acts.Act.{Act}
use Rattle.ps_ground.specs.Goals.{is_good}
use Rattle.ps_ground.specs.Moves.{Node, grounds, moves}
use Rattle.ps_ground.specs.States.{State, at, state_of}
use Rattle.ps_levels.specs.Levels.{IsFrugal, IsGivenAt, Space}
use Rattle.ps_levels.specs.declared.searching.Found.{Found}
use Rattle.ps_problem.specs.Patches.{changed}
use Rattle.ps_expand.specs.Differences.{IsBeside, Rise, difference, forth}
use Rattle.ps_expand.specs.Reached.{keys_in, with_difference}
use Rattle.ps_expand.specs.declared.differences.Difference.{Difference}
use Rattle.ps_expand.specs.declared.expanding.Child.{Child}

-- the start, with no acts before it
abbrev pub root_of : Knowledge → Node
root_of k = record { state = state_of k; path = [] }

-- what is searched: states with the acts that lead to them
abbrev pub tree_space : Domain → Knowledge → Cond → Space Node State
tree_space d k goal = record {
  root = root_of k;
  state = λ n. n.state;
  same = λ s t. same_known (at k s) (at k t);
  moves = moves d k (grounds d k);
  good = is_good d k goal;
}

-- the node of a difference that was reached
abbrev pub node_in : Knowledge → Difference × List Act → Node
node_in k r = record { state = state_of (changed k (forth r.0)); path = r.1 }

-- the nodes of all
abbrev pub nodes_in : Knowledge → List (Difference × List Act) → List Node
nodes_in k reached = map (node_in k) reached

-- the node of a child of what is known, where these acts lead
abbrev pub child_node : Knowledge → List Act → Child → Node
child_node here path c = record { state = state_of (changed here c.change); path = path ++ c.act ∷ [] }

-- children lead to what has the same instances and the same goal
abbrev pub AreBeside : Knowledge → Knowledge → List Child → Type 0
AreBeside k here [] = Unit {0}
AreBeside k here (c ∷ cs) = IsBeside k (changed here c.change) × AreBeside k here cs

-- a difference is one of a state whose lists rise
pub record IsOf (k : Knowledge) (x : Difference) : Type 0 where
  pub state : State
  pub rise : Rise (at k state)
  pub is : x ≡ difference k (at k state)

-- so is each of these
abbrev pub AreOf : Knowledge → List Difference → Type 0
AreOf k [] = Unit {0}
AreOf k (x ∷ xs) = IsOf k x × AreOf k xs

-- what is known is what the difference at a place leads to
abbrev pub IsHere : Knowledge → Knowledge → ℕ → List (Difference × List Act) → Type 0
IsHere k here i reached = (x : Difference) → slice_get (keys_in reached) i ≡ Some x → here ≡ changed k (forth x)

-- differences from a start are kept, and the problem stands at the one at a place
pub record IsTree (k here : Knowledge) (i : ℕ) (reached : List (Difference × List Act)) : Type 0 where
  pub rise : Rise k
  pub all : AreOf k (keys_in reached)
  pub stands : IsHere k here i reached

-- a child is met and kept, if it is new and there is room, and the problem stands where it did
pub record IsKept (most : ℕ) (k : Knowledge) (from : ℕ) (c : Child) (here : Knowledge) (reached : List (Difference × List Act)) (after : Knowledge) (new : List (Difference × List Act)) : Type 0 where
  pub back : after ≡ here
  pub met : new ≡ with_difference most reached (difference k (changed here c.change)) from c.act

-- what a tree holds: which expander, of what, and one more than that had counted before the first of these expansions
pub record Held : Type 0 where
  pub name : ℕ
  pub domain : Domain
  pub instances : List (Name × Name)
  pub goal : Cond
  pub before : ℕ

-- the path of a node
abbrev pub path_of : Node → List Act
path_of n = n.path

-- a tree of an expander with these instances that has counted so far, of which so many nodes are expanded
pub record IsTreeOf (instances : List (Name × Name)) (count : ℕ) (k here : Knowledge) (expanded : ℕ) (reached : List (Difference × List Act)) : Type 0 where
  pub tree : IsTree k here expanded reached
  pub same : k.instances ≡ instances
  pub counted : count ≤ 4611686018427387904 + expanded

-- a search may begin where what expands, with these instances and this goal, has counted so far
pub record MaySearch (instances : List (Name × Name)) (goal : Cond) (count : ℕ) (k : Knowledge) (budget : ℕ) : Type 0 where
  pub same : k.instances ≡ instances
  pub aim : k.goal ≡ Some goal
  pub low : count ≤ 4611686018427387904
  pub some : 1 ≤ budget

-- what is found is given at a depth, and the count has risen by what is expanded, which is frugal there
pub record IsCounted (p : Space Node State) (budget before after : ℕ) (found : Found (List Act)) : Type 0 where
  pub depth : ℕ
  pub expanded : ℕ
  pub risen : after ≡ before + expanded
  pub given : IsGivenAt p path_of depth found
  pub frugal : IsFrugal p budget depth expanded
