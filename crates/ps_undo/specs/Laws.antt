-- Laws of editors with undo and redo.
use Rattle.std.specs.Prelude.{◌≡◌, ◌+◌, ◌≤◌, Bool, true, Some, Result, Ok, length}
use Rattle.ps_world.specs.declared.domains.Domain.{Domain}
use Rattle.ps_world.specs.declared.edits.Edit.{Edit}
use Rattle.ps_world.specs.declared.edits.EditRefusal.{EditRefusal}
use Rattle.ps_world.specs.declared.failures.Failure.{Failure}
use Rattle.ps_world.specs.declared.known.Knowledge.{Knowledge}
use Rattle.ps_problem.specs.WellKnown.{IsWellKnown}
use Rattle.ps_undo.specs.Editing.{AreWellKnown, EditMakes, begun, most_kept, redone, undone}
use Rattle.ps_undo.specs.declared.editing.Editing.{Editing}

-- An edit that changed what is known can be undone, and then the same is known as before it. A redo after an undo gives back all that was held
-- before the undo, and an undo after a redo all that was held before the redo.
pub record EditsAreUndone : Type 0 where
  pub undo : (d : Domain) (x : Edit) (old new : Editing) → EditMakes d x old (Ok true) new → (after : Editing) × (undone new ≡ Some (x, after)) × (after.now ≡ old.now)
  pub redo : (old after : Editing) (x : Edit) → undone old ≡ Some (x, after) → redone after ≡ Some (x, old)
  pub undo_redone : (old after : Editing) (x : Edit) → redone old ≡ Some (x, after) → undone after ≡ Some (x, old)

-- at most 64 edits can be undone or redone
abbrev pub AreFew : Editing → Type 0
AreFew e = length e.past + length e.future ≤ most_kept

-- what is held suits the domain and is little
pub record IsSuited (d : Domain) (e : Editing) : Type 0 where
  pub known : AreWellKnown d e
  pub few : AreFew e

-- an editor begins so with knowledge that suits the domain, and each call leaves it so
pub record EditorsStaySuited : Type 0 where
  pub begin : (d : Domain) (k : Knowledge) → IsWellKnown d k → IsSuited d (begun k)
  pub edit : (d : Domain) (x : Edit) (old : Editing) (result : Result Bool (Failure EditRefusal)) (new : Editing) → EditMakes d x old result new → IsSuited d old → IsSuited d new
  pub undo : (d : Domain) (old after : Editing) (x : Edit) → undone old ≡ Some (x, after) → IsSuited d old → IsSuited d after
  pub redo : (d : Domain) (old after : Editing) (x : Edit) → redone old ≡ Some (x, after) → IsSuited d old → IsSuited d after
