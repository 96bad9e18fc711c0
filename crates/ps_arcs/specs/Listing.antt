-- What is listed of ground actions, to find their arcs.
use Rattle.std.specs.Prelude.{◌≡◌, ℕ, Bool, ◌||◌, List, ◌++◌, filter, flat_map}
use Rattle.std.specs.List.{range_with_len}
use Rattle.ps_action.specs.Arcs.{arcs_from, changes, is_thing, meet, reads}
use Rattle.ps_action.specs.declared.acts.GroundAction.{GroundAction}
use Rattle.ps_action.specs.declared.touched.Touched.{Touched}

-- the things and places among these are put at the end
abbrev pub Adds : List Touched → List Touched → List Touched → Type 0
Adds old more new = new ≡ old ++ filter is_thing more

-- the things and places that a ground action reads, and those that it changes
abbrev pub touching : GroundAction → List Touched × List Touched
touching a = (reads a, changes a)

-- whether two ground actions are tied, of which this is listed
abbrev pub are_met : List Touched × List Touched → List Touched × List Touched → Bool
are_met s t = meet s.0 t.1 || (meet s.1 t.0 || meet s.1 t.1)

-- the arcs from the first so many places
abbrev pub first_arcs : List GroundAction → ℕ → List (ℕ × ℕ)
first_arcs gs n = flat_map (arcs_from gs) (range_with_len 0 n)
