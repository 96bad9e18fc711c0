-- States that are met, level by level.
use Rattle.std.specs.Prelude.{ℕ, zero, suc, Bool, if◌then◌else◌, List, [], ◌∷◌, ◌++◌, flat_map}
use Rattle.std.specs.List.{list_any}
use Rattle.std.specs.Ordering.{eq_by_cmp, on, then_cmp}
use Rattle.std.specs.declared.cmp.Ordering.{Ordering}
use Rattle.std.specs.Cmp.Lexicographic.{slice_cmp}
use Rattle.ps_world.specs.Facts.{fact_cmp}
use Rattle.ps_world.specs.declared.domains.Domain.{Domain}
use Rattle.ps_world.specs.declared.known.Knowledge.{Knowledge}
use Rattle.ps_action.specs.declared.acts.GroundAction.{GroundAction}
use Rattle.ps_ground.specs.Moves.{Node, moves}
use Rattle.ps_solve.specs.Orders.{values_cmp}
use Rattle.ps_ground.specs.States.{State, state_of}

-- the order of states: by facts, then by values
abbrev pub state_cmp : State → State → Ordering
state_cmp = then_cmp (on (λ s. s.facts) (slice_cmp fact_cmp)) (on (λ s. s.values) values_cmp)

-- whether two states are the same
abbrev pub same_state : State → State → Bool
same_state = eq_by_cmp state_cmp

-- whether a state is among those that were met
abbrev pub is_met : List State → State → Bool
is_met seen s = list_any (same_state s) seen

-- the states that were met, with one more after them
abbrev pub with_state : List State → State → List State
with_state seen s = seen ++ s ∷ []

-- the nodes whose states weren't met before, neither among these nor at an earlier node
abbrev pub firsts : List State → List Node → List Node
firsts seen [] = []
firsts seen (n ∷ ns) = if is_met seen n.state then firsts seen ns else n ∷ firsts (with_state seen n.state) ns

-- the states that are met after these nodes, in the order in which they were met first
abbrev pub met : List State → List Node → List State
met seen [] = seen
met seen (n ∷ ns) = if is_met seen n.state then met seen ns else met (with_state seen n.state) ns

-- what is known, with no acts before it
abbrev pub root : Knowledge → Node
root k = record { state = state_of k; path = [] }

-- the nodes that so many steps lead to and no fewer do, in order, and the states that at most so many lead to
abbrev pub levels : Domain → Knowledge → List GroundAction → ℕ → List Node × List State
levels d k gs zero = (root k ∷ [], state_of k ∷ [])
levels d k gs (suc n) =
    let old = levels d k gs n in
    let next = flat_map (moves d k gs) old.0 in
    (firsts old.1 next, met old.1 next)
