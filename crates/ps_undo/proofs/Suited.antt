-- Laws of editors with undo and redo.
use Rattle.std.proofs.Common.{◌≡◌, Bool, true, false, List, [], ◌∷◌, Some, Result, Ok, Err, take, refl, ap, sym, subst, arith}
use Rattle.std.proofs.lemmas.List.{length-take}
use Rattle.std.proofs.lemmas.List.Elements.{All-cons, All-head, All-nil, All-tail, All-take}
use Rattle.ps_world.specs.declared.domains.Domain.{Domain}
use Rattle.ps_world.specs.declared.edits.Edit.{Edit}
use Rattle.ps_world.specs.declared.edits.EditRefusal.{EditRefusal}
use Rattle.ps_world.specs.declared.failures.Failure.{Failure}
use Rattle.ps_world.specs.declared.failures.Failure.TheVariants.{Refused, OutOfMemory}
use Rattle.ps_world.specs.declared.known.Knowledge.{Knowledge}
use Rattle.ps_problem.specs.WellKnown.{IsWellKnown}
use Rattle.ps_problem.proofs.WellKnown.{edits_keep_well_known}
use Rattle.ps_undo.specs.Editing.{EditMakes, most_kept, redone, undone}
use Rattle.ps_undo.specs.Laws.{EditorsStaySuited, EditsAreUndone, IsSuited}
use Rattle.ps_undo.specs.declared.editing.Editing.{Editing}

-- ---- undo and redo

undo_edit : (d : Domain) (x : Edit) (old new : Editing) → EditMakes d x old (Ok true) new → (after : Editing) × (undone new ≡ Some (x, after)) × (after.now ≡ old.now)
undo_edit d x old new m =
    (record { now = old.now; past = take 63 old.past; future = (new.now, x) ∷ [] }, ap undone m.2, refl)

-- all that is held, part by part
abbrev held : Knowledge → List (Knowledge × Edit) → List (Knowledge × Edit) → Editing
held now past future = record { now = now; past = past; future = future }

redo_at : (now : Knowledge) (past future : List (Knowledge × Edit)) (x : Edit) (after : Editing) → undone (held now past future) ≡ Some (x, after) → redone after ≡ Some (x, held now past future)
redo_at now [] future x after e = cc
redo_at now (p ∷ past) future x after e =
    let start : Edit × Editing = (p.1, held p.0 past ((now, p.1) ∷ future)) in
    let end : Edit × Editing = (x, after) in
    let same : start ≡ end = cc in
    subst (λ (s : Edit × Editing). redone s.1 ≡ Some (s.0, held now (p ∷ past) future)) same refl

undo_at : (now : Knowledge) (past future : List (Knowledge × Edit)) (x : Edit) (after : Editing) → redone (held now past future) ≡ Some (x, after) → undone after ≡ Some (x, held now past future)
undo_at now past [] x after e = cc
undo_at now past (p ∷ future) x after e =
    let start : Edit × Editing = (p.1, held p.0 ((now, p.1) ∷ past) future) in
    let end : Edit × Editing = (x, after) in
    let same : start ≡ end = cc in
    subst (λ (s : Edit × Editing). undone s.1 ≡ Some (s.0, held now past (p ∷ future))) same refl

pub edits_are_undone : EditsAreUndone
edits_are_undone = record {
  undo = undo_edit;
  redo = λ old after x e. redo_at old.now old.past old.future x after e;
  undo_redone = λ old after x e. undo_at old.now old.past old.future x after e;
}

-- ---- what stays suited

undo_suited : (d : Domain) (now : Knowledge) (past future : List (Knowledge × Edit)) (x : Edit) (after : Editing) → undone (held now past future) ≡ Some (x, after) → IsSuited d (held now past future) → IsSuited d after
undo_suited d now [] future x after e w = cc
undo_suited d now (p ∷ past) future x after e w =
    let Known : Knowledge × Edit → Type 0 = λ q. IsWellKnown d q.0 in
    let start : Edit × Editing = (p.1, held p.0 past ((now, p.1) ∷ future)) in
    let end : Edit × Editing = (x, after) in
    let same : start ≡ end = cc in
    let is : held p.0 past ((now, p.1) ∷ future) ≡ after = ap (λ (s : Edit × Editing). s.1) same in
    let few = w.few in
    subst (IsSuited d) is (record {
      known = record {
        now = All-head Known p past w.known.past;
        past = All-tail Known p past w.known.past;
        future = All-cons Known (now, p.1) future w.known.now w.known.future;
      };
      few = omega (arith, few);
    })

redo_suited : (d : Domain) (now : Knowledge) (past future : List (Knowledge × Edit)) (x : Edit) (after : Editing) → redone (held now past future) ≡ Some (x, after) → IsSuited d (held now past future) → IsSuited d after
redo_suited d now past [] x after e w = cc
redo_suited d now past (p ∷ future) x after e w =
    let Known : Knowledge × Edit → Type 0 = λ q. IsWellKnown d q.0 in
    let start : Edit × Editing = (p.1, held p.0 ((now, p.1) ∷ past) future) in
    let end : Edit × Editing = (x, after) in
    let same : start ≡ end = cc in
    let is : held p.0 ((now, p.1) ∷ past) future ≡ after = ap (λ (s : Edit × Editing). s.1) same in
    let few = w.few in
    subst (IsSuited d) is (record {
      known = record {
        now = All-head Known p future w.known.future;
        past = All-cons Known (now, p.1) past w.known.now w.known.past;
        future = All-tail Known p future w.known.future;
      };
      few = omega (arith, few);
    })

edit_suited : (d : Domain) (x : Edit) (old : Editing) (result : Result Bool (Failure EditRefusal)) (new : Editing) → EditMakes d x old result new → IsSuited d old → IsSuited d new
edit_suited d x old (Ok true) new m w =
    let Known : Knowledge × Edit → Type 0 = λ q. IsWellKnown d q.0 in
    let all : List (Knowledge × Edit) = (old.now, x) ∷ old.past in
    let short = length-take most_kept all in
    subst (IsSuited d) (sym m.2) (record {
      known = record {
        now = edits_keep_well_known.next d old.now x new.now m.0 w.known.now;
        past = All-take Known most_kept all (All-cons Known (old.now, x) old.past w.known.now w.known.past);
        future = All-nil Known;
      };
      few = omega (arith, short);
    })
edit_suited d x old (Ok false) new m w = subst (IsSuited d) (sym m.1) w
edit_suited d x old (Err (Refused r)) new m w = subst (IsSuited d) (sym m.1) w
edit_suited d x old (Err OutOfMemory) new m w = subst (IsSuited d) (sym m) w

pub editors_stay_suited : EditorsStaySuited
editors_stay_suited = record {
  begin = λ d k w. record { known = record { now = w; past = All-nil (λ q. IsWellKnown d q.0); future = All-nil (λ q. IsWellKnown d q.0) }; few = omega arith };
  edit = edit_suited;
  undo = λ d old after x e w. undo_suited d old.now old.past old.future x after e w;
  redo = λ d old after x e w. redo_suited d old.now old.past old.future x after e w;
}
