-- A row that is expanded, and what it leads to.
use Rattle.std.specs.Prelude.{◌≡◌, ℕ, Bool, false, Option, Some, None, List, ◌∷◌, [], ◌++◌, All, find, fold, length, map, slice_get}
use Rattle.std.specs.List.{last_or}
use Rattle.ps_ground.specs.Goals.{is_good}
use Rattle.ps_ground.specs.Prepared.{IsSound}
use Rattle.ps_ground.specs.States.{State}
use Rattle.ps_ground.specs.declared.prepared.Prepared.{Prepared}
use Rattle.ps_solve.specs.Queue.{IsQueue, Lead, leads_from, with_lead}
use Rattle.ps_solve.specs.Reached.{places_of, rows_of}
use Rattle.ps_solve.specs.Rows.{AreWide, plain_state}
use Rattle.ps_solve.specs.declared.expansion.Expansion.{Expansion}
use Rattle.ps_solve.specs.declared.rows.Row.{Row}
use Rattle.ps_solve.specs.declared.task.Task.{Task}

-- whether a state meets the goal
abbrev pub meets_goal : Task → State → Bool
meets_goal t s = is_good t.expert.now t.problem.now t.goal.now s

-- the leads of rows that were reached
abbrev pub leads_of : Task → List (Row × List ℕ) → List Lead
leads_of t reached = map (λ r. record { state = plain_state t.grounds.atoms r.0; places = r.1 }) reached

-- none of them meets the goal
abbrev pub NoneGood : Task → List Lead → Type 0
NoneGood t ls = All (λ l. meets_goal t l.state ≡ false) ls

-- The row that is expanded is one of those that were reached, each of which has a flag for each atom, and none of which meets the
-- goal.
pub record IsExpanding (e : Expansion) (reached : List (Row × List ℕ)) : Type 0 where
  pub there : slice_get (rows_of reached) e.from ≡ Some e.here
  pub wide : AreWide e.task.now.grounds.atoms (rows_of reached)
  pub none : NoneGood e.task.now (leads_of e.task.now reached)

-- the lead by the ground action at a place to a row
abbrev pub lead_to : Expansion → List (Row × List ℕ) → ℕ → Row → Lead
lead_to e reached i r = record { state = plain_state e.task.now.grounds.atoms r; places = places_of reached e.from ++ i ∷ [] }

-- where these ground actions lead, the first of which stands at this place
abbrev pub led_by : Expansion → List (Row × List ℕ) → ℕ → List Prepared → List Lead
led_by e reached i ps = leads_from e.task.now.expert.now e.task.now.problem.now e.task.now.grounds.atoms i ps (record { state = plain_state e.task.now.grounds.atoms e.here; places = places_of reached e.from })

-- where all lead
abbrev pub all_led : Expansion → List (Row × List ℕ) → List Lead
all_led e reached = led_by e reached 0 e.task.now.grounds.actions.items

-- what is kept after these leads are met
abbrev pub kept : Expansion → List (Row × List ℕ) → List Lead → List Lead
kept e reached ls = fold (with_lead e.most) (leads_of e.task.now reached) ls

-- the first of these leads whose state meets the goal
abbrev pub first_good : Expansion → List Lead → Option Lead
first_good e ls = find (λ l. meets_goal e.task.now l.state) ls

-- the rows are a queue of which those before the one that is expanded are expanded
abbrev pub IsNext : Expansion → List (Row × List ℕ) → Type 0
IsNext e reached = IsQueue e.task.now.expert.now e.task.now.problem.now e.task.now.grounds.atoms e.task.now.grounds.actions.items (meets_goal e.task.now) e.most e.from (leads_of e.task.now reached)

-- a ground action can be tried: it is sound, and this row has a flag for each atom
pub record CanTry (e : Expansion) (action : Prepared) (next : Row) : Type 0 where
  pub sound : IsSound e.task.now.expert.now e.task.now.problem.now e.task.now.grounds.atoms action
  pub wide : length next.flags ≡ length e.task.now.grounds.atoms

-- all can be tried: the row that is expanded is the next of the queue, this ground action led to it, and this row has a flag for each atom
pub record CanTryAll (e : Expansion) (last : Option ℕ) (next : Row) (reached : List (Row × List ℕ)) : Type 0 where
  pub led : last ≡ last_or None (places_of reached e.from)
  pub queue : IsNext e reached
  pub wide : length next.flags ≡ length e.task.now.grounds.atoms
