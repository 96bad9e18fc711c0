-- Calls leave what a run of them says.
use Rattle.std.proofs.Common.{◌≡◌, Bool, true, false, if◌then◌else◌, Option, Some, None, Ok, refl, ap, sym, ◌∙◌}
use Rattle.std.specs.Bool.{Decides}
use Rattle.ps_world.specs.Same.{is_same, is_same_decides}
use Rattle.ps_world.specs.contracts.known.Knowledge.{the_row}
use Rattle.ps_world.specs.declared.domains.Domain.{Domain}
use Rattle.ps_world.specs.declared.edits.Edit.{Edit}
use Rattle.ps_undo.specs.Editing.{EditMakes, after_edit}
use Rattle.ps_undo.specs.Runs.{CallsAreOfRuns, after_call, after_made, after_step, make}
use Rattle.ps_undo.specs.declared.editing.Editing.{Editing}

other_at : {A : Type 0} (b : Bool) (P : Type 0) (x y : A) → Decides b P → (P → ⊥) → (if b then x else y) ≡ y
other_at true P x y d n = absurd (n (d.0 refl))
other_at false P x y d n = refl

same_at : {A : Type 0} (b : Bool) (P : Type 0) (x y : A) → Decides b P → P → (if b then x else y) ≡ x
same_at true P x y d p = refl
same_at false P x y d p = let yes = d.1 p in cc

edit_of_run : (d : Domain) (x : Edit) (old new : Editing) (changed : Bool) → EditMakes d x old (Ok changed) new → new ≡ after_call d old (make x)
edit_of_run d x old new true w =
    let other = other_at (is_same the_row.coded new.now old.now) (new.now ≡ old.now) old (after_edit old x new.now) (is_same_decides the_row.coded new.now old.now) w.1 in
    w.2 ∙ sym other ∙ ap (after_made old x) (sym w.0)
edit_of_run d x old new false w =
    let same = same_at (is_same the_row.coded old.now old.now) (old.now ≡ old.now) old (after_edit old x old.now) (is_same_decides the_row.coded old.now old.now) refl in
    w.1 ∙ sym same ∙ ap (after_made old x) (sym w.0)

step_of_run : (old new : Editing) (step : Option (Edit × Editing)) (x : Edit) → step ≡ Some (x, new) → new ≡ after_step old step
step_of_run old new step x e = sym (ap (after_step old) e)

none_of_run : (old new : Editing) (step : Option (Edit × Editing)) → step ≡ None → new ≡ old → new ≡ after_step old step
none_of_run old new step e s = s ∙ sym (ap (after_step old) e)

pub calls_are_of_runs : CallsAreOfRuns
calls_are_of_runs = record {
  edit_made = edit_of_run;
  edit_refused = λ d x old new why w. w.1 ∙ ap (after_made old x) (sym w.0);
  undo_taken = λ d x old new none w. step_of_run old new _ x w;
  undo_refused = λ d old new none why w. none_of_run old new _ w.0 w.2;
  redo_taken = λ d x old new none w. step_of_run old new _ x w;
  redo_refused = λ d old new none why w. none_of_run old new _ w.0 w.2;
}
