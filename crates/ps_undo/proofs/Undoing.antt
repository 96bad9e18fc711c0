-- What an editor makes of what it holds.
use Rattle.std.proofs.Common.{◌≡◌, ◌≢◌, ℕ, zero, suc, Bool, true, false, if◌then◌else◌, Result, List, [], ◌∷◌, Option, Some, None, IsSome, Ok, Err, take, refl, ap, sym, ◌∙◌, subst}
use Rattle.std.specs.Option.{option_map}
use Rattle.std.specs.declared.alloc.AllocError.{AllocError}
use Rattle.ps_world.specs.Edits.{Edits}
use Rattle.ps_world.specs.Same.{is_same, is_same_decides}
use Rattle.ps_world.specs.contracts.known.Knowledge.{the_row}
use Rattle.std.specs.Bool.{Decides}
use Rattle.ps_world.specs.Knowledge.{edited}
use Rattle.ps_world.specs.declared.domains.Domain.{Domain}
use Rattle.ps_world.specs.declared.edits.Edit.{Edit}
use Rattle.ps_world.specs.declared.edits.EditRefusal.{EditRefusal}
use Rattle.ps_world.specs.declared.failures.Failure.{Failure}
use Rattle.ps_world.specs.declared.failures.Failure.TheVariants.{Refused, OutOfMemory}
use Rattle.ps_world.specs.declared.known.Knowledge.{Knowledge}
use Rattle.ps_problem.specs.Changes.{Rises}
use Rattle.ps_problem.specs.Patches.{changed}
use Rattle.ps_undo.specs.Changes.{change_of, leading_back}
use Rattle.ps_undo.specs.Editing.{EditMakes, Goes, Takes, after_edit, answer_of, has_changed, led_by, most_kept, redone, turned, undone}
use Rattle.ps_undo.specs.declared.editing.Editing.{Editing}
use Rattle.ps_undo.specs.declared.editing.UndoRefusal.{UndoRefusal}
use Rattle.ps_undo.specs.declared.editing.UndoRefusal.TheVariants.{NothingToUndo, NothingToRedo}
use Rattle.ps_undo.specs.declared.steps.Step.{Step}
use Rattle.ps_undo.proofs.Backs.{leads_back}
use Rattle.ps_undo.proofs.Edits.{edit_back}

-- what steps of both kinds are seen as
abbrev pub seen : Knowledge → List Step → List Step → Editing
seen k past future = record { now = k; past = led_by k past; future = led_by k future }

-- fewer steps lead to fewer knowledges
led-take : (n : ℕ) (k : Knowledge) (ss : List Step) → led_by k (take n ss) ≡ take n (led_by k ss)
led-take zero k ss = refl
led-take (suc n) k [] = refl
led-take (suc n) k (s ∷ ss) = ap (λ l. (changed k s.change, s.edit) ∷ l) (led-take n (changed k s.change) ss)

-- an edit that changed what is known is kept
pub edit_kept : (d : Domain) (k : Knowledge) (x : Edit) (new : Knowledge) (past future : List Step) (step : Step) → Rises k → edited d k x ≡ Ok new → new ≢ k → step ≡ record { edit = x; change = leading_back k (change_of k x) } → seen new (take most_kept (step ∷ past)) [] ≡ after_edit (seen k past future) x new
edit_kept d k x new past future step s e h is =
    let back : changed new step.change ≡ k = ap (λ (t : Step). changed new t.change) is ∙ edit_back d k x new s e h in
    let same : step.edit ≡ x = ap (λ (t : Step). t.edit) is in
    let led : led_by new (take most_kept (step ∷ past)) ≡ take most_kept ((k, x) ∷ led_by k past) =
    led-take most_kept new (step ∷ past) ∙ (λ i. take most_kept ((back i, same i) ∷ led_by (back i) past)) in
    λ i. record { now = new; past = led i; future = [] }

-- the step that leads back leads to what was known
back_seen : (k : Knowledge) (s : Step) (left to : List Step) → Rises k → seen (changed k s.change) left (record { edit = s.edit; change = leading_back k s.change } ∷ to) ≡ record { now = changed k s.change; past = led_by (changed k s.change) left; future = (k, s.edit) ∷ led_by k to }
back_seen k s left to r =
    let back = leads_back k s.change r in
    λ i. record { now = changed k s.change; past = led_by (changed k s.change) left; future = (back i, s.edit) ∷ led_by (back i) to }

-- the first step was taken, and the one that leads back was put before others
pub step_taken : (k : Knowledge) (from to : List Step) (x : Edit) (new : Knowledge) (left put : List Step) → Rises k → (s : Step) × (from ≡ s ∷ left) × (x ≡ s.edit) × (new ≡ changed k s.change) × (put ≡ record { edit = s.edit; change = leading_back k s.change } ∷ to) → undone (seen k from to) ≡ Some (x, seen new left put)
step_taken k from to x new left put r w =
    let s = w.0 in
    let edit = sym w.2 in
    let back = sym (back_seen k s left to r) in
    let now = sym w.3 in
    let more = sym w.4 in
    ap (λ (l : List Step). undone (seen k l to)) w.1 ∙ (λ i. Some (edit i, back i)) ∙ (λ i. Some (x, seen (now i) left (more i)))

-- there is a step
pub step_there : (k : Knowledge) (from to : List Step) → from ≢ [] → IsSome (undone (seen k from to))
step_there k [] to h = absurd (h refl)
step_there k (s ∷ from) to h = refl

pub no_step : (k : Knowledge) (from to : List Step) → from ≡ [] → undone (seen k from to) ≡ None
no_step k from to e = ap (λ (l : List Step). undone (seen k l to)) e

-- and the other way round
pub redo_taken : (k : Knowledge) (past future : List Step) (x : Edit) (new : Knowledge) (left put : List Step) → undone (seen k future past) ≡ Some (x, seen new left put) → redone (seen k past future) ≡ Some (x, seen new put left)
redo_taken k past future x new left put e = ap (option_map (λ (s : Edit × Editing). (s.0, turned s.1))) e

-- ---- what the calls answer

same_seen : (k new : Knowledge) (from to left put : List Step) → left ≡ from → new ≡ k → put ≡ to → seen new left put ≡ seen k from to
same_seen k new from to left put a b c = λ i. seen (b i) (a i) (c i)

undo_at : (k : Knowledge) (from to : List Step) (r : Result (Option Edit) AllocError) (new : Knowledge) (left put : List Step) → Rises k → Goes k from to r new left put → Takes (undone (seen k from to)) NothingToUndo (seen k from to) (answer_of r NothingToUndo) (seen new left put)
undo_at k from to (Ok None) new left put r w = (no_step k from to w.0, refl, same_seen k new from to left put w.1 w.2 w.3)
undo_at k from to (Ok (Some x)) new left put r w = step_taken k from to x new left put r w
undo_at k from to (Err e) new left put r w = (step_there k from to w.0, same_seen k new from to left put w.1 w.2 w.3)

redo_some : (o : Option (Edit × Editing)) → IsSome o → IsSome {T = Edit × Editing} (option_map (λ (s : Edit × Editing). (s.0, turned s.1)) o)
redo_some None h = h
redo_some (Some s) h = refl

redo_at : (k : Knowledge) (past future : List Step) (r : Result (Option Edit) AllocError) (new : Knowledge) (left put : List Step) → Rises k → Goes k future past r new left put → Takes (redone (seen k past future)) NothingToRedo (seen k past future) (answer_of r NothingToRedo) (seen new put left)
redo_at k past future (Ok None) new left put r w =
    (ap (option_map (λ (s : Edit × Editing). (s.0, turned s.1))) (no_step k future past w.0), refl, same_seen k new past future put left w.3 w.2 w.1)
redo_at k past future (Ok (Some x)) new left put r w =
    redo_taken k past future x new left put (step_taken k future past x new left put r w)
redo_at k past future (Err e) new left put r w =
    (redo_some (undone (seen k future past)) (step_there k future past w.0), same_seen k new past future put left w.3 w.2 w.1)

-- the same of what an editor is seen as
pub undo_takes : (self : Editing) (k : Knowledge) (past future : List Step) (r : Result (Option Edit) AllocError) (new : Knowledge) (left put : List Step) (result : Result Edit (Failure UndoRefusal)) → seen k past future ≡ self → Rises self.now → Goes k past future r new left put → result ≡ answer_of r NothingToUndo → Takes (undone self) NothingToUndo self result (seen new left put)
undo_takes self k past future r new left put result e s w a =
    let rise : Rises k = subst (λ (m : Editing). Rises m.now) (sym e) s in
    subst (λ (q : Result Edit (Failure UndoRefusal)). Takes (undone self) NothingToUndo self q (seen new left put)) (sym a)
    (subst (λ (m : Editing). Takes (undone m) NothingToUndo m (answer_of r NothingToUndo) (seen new left put)) e (undo_at k past future r new left put rise w))

pub redo_takes : (self : Editing) (k : Knowledge) (past future : List Step) (r : Result (Option Edit) AllocError) (new : Knowledge) (left put : List Step) (result : Result Edit (Failure UndoRefusal)) → seen k past future ≡ self → Rises self.now → Goes k future past r new left put → result ≡ answer_of r NothingToRedo → Takes (redone self) NothingToRedo self result (seen new put left)
redo_takes self k past future r new left put result e s w a =
    let rise : Rises k = subst (λ (m : Editing). Rises m.now) (sym e) s in
    subst (λ (q : Result Edit (Failure UndoRefusal)). Takes (redone self) NothingToRedo self q (seen new put left)) (sym a)
    (subst (λ (m : Editing). Takes (redone m) NothingToRedo m (answer_of r NothingToRedo) (seen new put left)) e (redo_at k past future r new left put rise w))

-- what can't differ is the same, since what is known can be compared
stands : (k new : Knowledge) (b : Bool) → Decides b (new ≡ k) → ((new ≢ k) → ⊥) → new ≡ k
stands k new true d h = d.0 refl
stands k new false d h = absurd (h (λ e. let yes = d.1 e in cc))

unchanged : (k new : Knowledge) → ((new ≢ k) → false ≡ true) → new ≡ k
unchanged k new h =
    stands k new (is_same the_row.coded new k) (is_same_decides the_row.coded new k) (λ n. let no = h n in cc)

edit_at : (d : Domain) (x : Edit) (k : Knowledge) (past future : List Step) (step : Step) (made : Result Bool (Failure EditRefusal)) (new : Knowledge) → Rises k → step ≡ record { edit = x; change = leading_back k (change_of k x) } → Edits d x k made new → EditMakes d x (seen k past future) made (seen new (if has_changed made then take most_kept (step ∷ past) else past) (if has_changed made then [] else future))
edit_at d x k past future step (Ok true) new r s w =
    let other = w.1.0 refl in (w.0, other, edit_kept d k x new past future step r w.0 other s)
edit_at d x k past future step (Ok false) new r s w =
    let same = unchanged k new w.1.1 in (subst (λ (m : Knowledge). edited d k x ≡ Ok m) same w.0, ap (λ (m : Knowledge). seen m past future) same)
edit_at d x k past future step (Err (Refused why)) new r s w = (w.0, ap (λ (m : Knowledge). seen m past future) w.1)
edit_at d x k past future step (Err OutOfMemory) new r s w = ap (λ (m : Knowledge). seen m past future) w.1

pub edit_makes : (self : Editing) (d : Domain) (x : Edit) (k : Knowledge) (past future : List Step) (step : Step) (made : Result Bool (Failure EditRefusal)) (new : Knowledge) (left : List Step) (put : List Step) → seen k past future ≡ self → Rises self.now → step ≡ record { edit = x; change = leading_back k (change_of k x) } → Edits d x k made new → left ≡ (if has_changed made then take most_kept (step ∷ past) else past) → put ≡ (if has_changed made then [] else future) → EditMakes d x self made (seen new left put)
edit_makes self d x k past future step made new left put e s is w a b =
    let rise : Rises k = subst (λ (m : Editing). Rises m.now) (sym e) s in
    subst (λ (l : List Step). EditMakes d x self made (seen new l put)) (sym a)
    (subst (λ (l : List Step). EditMakes d x self made (seen new (if has_changed made then take most_kept (step ∷ past) else past) l)) (sym b)
    (subst (λ (m : Editing). EditMakes d x m made (seen new (if has_changed made then take most_kept (step ∷ past) else past) (if has_changed made then [] else future))) e
    (edit_at d x k past future step made new rise is w)))
