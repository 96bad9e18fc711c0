-- The starts and ends of a plan as a beginning of an order that its arcs allow.
use Rattle.std.specs.Prelude.{◌≡◌, ℕ, ◌<◌, Bool, Contains, Option, Some, None, List, ◌∷◌, ◌++◌, filter_map, length}
use Rattle.ps_action.specs.declared.acts.Act.{Act}
use Rattle.ps_action.specs.Arcs.{is_arc}
use Rattle.ps_machine.specs.declared.inputs.Input.{Input}
use Rattle.ps_machine.specs.declared.journal.Event.{Event}
use Rattle.ps_machine.specs.declared.journal.Event.TheVariants as event
use Rattle.ps_machine.specs.declared.journal.Entry.{Entry}
use Rattle.ps_order_laws.specs.Orders.{Event as Moment, begins, ends, IsOrder, all_waiting}
use Rattle.ps_rules.specs.Runs.{says_plan}
use Rattle.ps_rules.specs.Known.{grounds}
use Rattle.ps_rules.specs.History.{IsHistory}
use Rattle.ps_good_plan_laws.specs.Segments.{IsOfOnePlan}

-- an event as the start or the end of an act, where it is one
abbrev pub as_moment : Event → Option Moment
as_moment (event.Start act) = Some (begins act)
as_moment (event.End act) = Some (ends act)
as_moment e = None

-- the starts and ends among these entries, in order
abbrev pub starts_and_ends : List Entry → List Moment
starts_and_ends es = filter_map (λ e. as_moment e.what) es

-- events are a beginning of an order of the starts and ends of the first n acts that these arcs allow: others may follow, with which they
-- are such an order
pub record IsBeginning (arc : ℕ → ℕ → Bool) (n : ℕ) (es : List Moment) : Type 0 where
  pub rest : List Moment
  pub order : IsOrder arc n all_waiting (es ++ rest)

-- The starts and ends among entries of one plan go in order: they are a beginning of an order that the plan's arcs allow, and such an order
-- where the end of each act is among them.
pub record GoesInOrder (i : Input) (acts : List Act) (es : List Entry) : Type 0 where
  pub begun : IsBeginning (is_arc (grounds i.domain acts)) (length acts) (starts_and_ends es)
  pub whole : ((act : ℕ) → act < length acts → Contains (starts_and_ends es) (ends act))
      → IsOrder (is_arc (grounds i.domain acts)) (length acts) all_waiting (starts_and_ends es)

-- The plans of a journal go in order: take entries of it that follow one that makes a plan, of whatever kind, up to the end of the plan or
-- less far; then the starts and ends among them go in order.
pub record GoInOrder (i : Input) (all : List Entry) : Type 0 where
  pub each : (before es rest : List Entry) (e : Entry) (acts : List Act)
      → all ≡ before ++ e ∷ (es ++ rest)
      → says_plan e.what ≡ Some acts
      → IsOfOnePlan es
      → GoesInOrder i acts es

-- the plans of every history go in order
abbrev pub JournalsGoInOrder : Type 0
JournalsGoInOrder = (i : Input) (all : List Entry) → IsHistory i all → GoInOrder i all
