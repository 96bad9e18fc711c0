-- The work that is handed out to performers.
use Rattle.std.specs.Prelude.{◌≡◌, ℕ, Bool, true, false, Option, Some, None, option_map, List, length, map, slice_get, slice_index_or, slice_set}
use Rattle.ps_world.specs.declared.names.Name.{Name}
use Rattle.ps_machine.specs.declared.inputs.Input.{Input}
use Rattle.ps_machine.specs.declared.members.Unit.{Unit as Task}
use Rattle.ps_machine.specs.declared.members.Unit.TheVariants as unit
use Rattle.ps_machine.specs.declared.journal.Event.{Event}
use Rattle.ps_machine.specs.declared.journal.Entry.{Entry}
use Rattle.ps_rules.specs.Auctions.{is_working}
use Rattle.ps_rules.specs.Choices.{performed, work_of}
use Rattle.ps_rules.specs.Members.{performers}
use Rattle.ps_board.specs.declared.works.Grant.{Grant}
use Rattle.ps_board.specs.declared.works.Turn.{Turn}
use Rattle.ps_board.specs.declared.works.Turn.TheVariants as turn

-- the names of the performers, in the order of the members
abbrev pub performer_names : Input → List Name
performer_names i = map (λ p. p.name) (performers i)

-- the request of the grant that the performer with this number has out, if it has one out
abbrev pub granted : List (Option ℕ) → ℕ → Option ℕ
granted grants p = slice_index_or grants p None

-- There is a place for each performer, and whose grant is out works on its request.
pub record AreOut (i : Input) (es : List Entry) (grants : List (Option ℕ)) : Type 0 where
  pub all : length grants ≡ length (performers i)
  pub working : (p r : ℕ) (name : Name) → slice_get (performer_names i) p ≡ Some name → granted grants p ≡ Some r → is_working r name es ≡ true

-- the grant of the work that a performer has to do now, if it has some: its next unit
abbrev pub grant_for : Input → List Entry → Name → Option Grant
grant_for i es p = option_map (λ w. record { r = w.0; by = p; unit = w.1 }) (work_of i p es)

-- whether a unit has neither a text nor an edit
abbrev pub is_bare : Task → Bool
is_bare unit.Work = true
is_bare (unit.Finish ok) = true
is_bare u = false

-- the answer of a performer's turn in which it does this, if something, and is else handed this grant, if one
abbrev pub turn_of : Option Event → Option Grant → Turn
turn_of (Some e) g = turn.Did
turn_of None (Some g) = turn.Work g
turn_of None None = turn.Nothing

-- the answer of the turn of a performer of which no grant is out
abbrev pub performed_answer : Input → List Entry → Name → Turn
performed_answer i es p = turn_of (performed i p es) (grant_for i es p)

-- the grants that are out after a turn of the performer with this number
abbrev pub granted_after : List (Option ℕ) → ℕ → Turn → List (Option ℕ)
granted_after grants p (turn.Work g) = slice_set grants p (Some g.r)
granted_after grants p t = grants
