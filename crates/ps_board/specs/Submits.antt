-- What comes of the answer of a solver.
use Rattle.std.specs.Prelude.{◌≡◌, ℕ, ◌≤◌, IsTrue, Option, Some, None, List, slice_get}
use Rattle.ps_world.specs.declared.edits.Edit.{Edit}
use Rattle.ps_action.specs.declared.answers.Answer.{Answer}
use Rattle.ps_machine.specs.declared.inputs.Input.{Input}
use Rattle.ps_machine.specs.declared.journal.Event.{Event}
use Rattle.ps_machine.specs.declared.journal.Event.TheVariants as event
use Rattle.ps_machine.specs.declared.journal.Entry.{Entry}
use Rattle.ps_rules.specs.Choices.{planned}
use Rattle.ps_stale_plan_laws.specs.Asked.{IsFirstToCount, may_come, NoneCount}
use Rattle.ps_board.specs.declared.submits.Submitted.{Submitted}
use Rattle.ps_board.specs.declared.submits.Submitted.TheVariants.{Taken, Stale}

-- the edit that an event records, if it records one
abbrev pub edit_in : Event → Option Edit
edit_in (event.Edit by edit) = Some edit
edit_in e = None

-- the entry at this place, if there is one, may come while the solver is asked
abbrev pub MayComeAt : List Entry → ℕ → Type 0
MayComeAt es k = (e : Entry) → slice_get es k ≡ Some e → IsTrue (may_come e.what)

-- no entry from this place on records an edit
abbrev pub NoEditFrom : List Entry → ℕ → Type 0
NoEditFrom es at = (k : ℕ) (e : Entry) → at ≤ k → slice_get es k ≡ Some e → edit_in e.what ≡ None

-- this is the first entry that counts for who asked the solver after so many, if one does
abbrev pub IsFirstFrom : Input → List Entry → ℕ → Option ℕ → Type 0
IsFirstFrom i es at None = NoneCount i es at
IsFirstFrom i es at (Some k) = IsFirstToCount i es at k

-- An answer to who asked after so many of these entries was taken, where no entry since counts; else it is stale at the first that does.
abbrev pub IsSubmitted : Input → List Entry → ℕ → Submitted → Type 0
IsSubmitted i es at Taken = NoneCount i es at
IsSubmitted i es at (Stale k) = IsFirstToCount i es at k

-- what follows an answer that was taken: the run goes on with its plan, or ends; nothing follows one that is stale
abbrev pub taken_event : Submitted → Answer → Option Event
taken_event Taken answer = planned answer
taken_event (Stale k) answer = None
