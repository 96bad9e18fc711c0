-- What an editor holds after each of several calls.
use Rattle.std.specs.Prelude.{◌≡◌, Bool, if◌then◌else◌, Option, Some, None, Result, Ok, Err, List, [], ◌∷◌}
use Rattle.ps_world.specs.Knowledge.{edited, opening}
use Rattle.ps_world.specs.Same.{is_same}
use Rattle.ps_world.specs.contracts.known.Knowledge.{the_row}
use Rattle.ps_world.specs.declared.domains.Domain.{Domain}
use Rattle.ps_world.specs.declared.edits.Edit.{Edit}
use Rattle.ps_world.specs.declared.edits.EditRefusal.{EditRefusal}
use Rattle.ps_world.specs.declared.failures.Failure.TheVariants.{Refused}
use Rattle.ps_world.specs.declared.known.Knowledge.{Knowledge}
use Rattle.ps_undo.specs.Editing.{EditMakes, Takes, after_edit, begun, redone, undone}
use Rattle.ps_undo.specs.declared.editing.Editing.{Editing}
use Rattle.ps_undo.specs.declared.editing.UndoRefusal.{UndoRefusal}

-- what an editor may be asked to do
pub data Call : Type 0 where
  make : Edit → Call
  undo : Call
  redo : Call

-- after an edit that gave this: nothing changes where it was refused or gave the same knowledge
abbrev pub after_made : Editing → Edit → Result Knowledge EditRefusal → Editing
after_made old x (Ok new) = if is_same the_row.coded new old.now then old else after_edit old x new
after_made old x (Err why) = old

-- after a step that was taken, if there was one
abbrev pub after_step : Editing → Option (Edit × Editing) → Editing
after_step old None = old
after_step old (Some step) = step.1

abbrev pub after_call : Domain → Editing → Call → Editing
after_call d old (make x) = after_made old x (edited d old.now x)
after_call d old undo = after_step old (undone old)
after_call d old redo = after_step old (redone old)

-- what is held after each of these calls
abbrev pub held_after : Domain → Editing → List Call → List Editing
held_after d e [] = []
held_after d e (c ∷ cs) = after_call d e c ∷ held_after d (after_call d e c) cs

-- the same of an editor that begins with the domain's constants
abbrev pub edited_run : Domain → List Call → List Editing
edited_run d cs = held_after d (begun (opening d)) cs

-- a call that isn't broken off since memory ran out leaves what the run says
pub record CallsAreOfRuns : Type 0 where
  pub edit_made : (d : Domain) (x : Edit) (old new : Editing) (changed : Bool) → EditMakes d x old (Ok changed) new → new ≡ after_call d old (make x)
  pub edit_refused : (d : Domain) (x : Edit) (old new : Editing) (why : EditRefusal) → EditMakes d x old (Err (Refused why)) new → new ≡ after_call d old (make x)
  pub undo_taken : (d : Domain) (x : Edit) (old new : Editing) (none : UndoRefusal) → Takes (undone old) none old (Ok x) new → new ≡ after_call d old undo
  pub undo_refused : (d : Domain) (old new : Editing) (none why : UndoRefusal) → Takes (undone old) none old (Err (Refused why)) new → new ≡ after_call d old undo
  pub redo_taken : (d : Domain) (x : Edit) (old new : Editing) (none : UndoRefusal) → Takes (redone old) none old (Ok x) new → new ≡ after_call d old redo
  pub redo_refused : (d : Domain) (old new : Editing) (none why : UndoRefusal) → Takes (redone old) none old (Err (Refused why)) new → new ≡ after_call d old redo
