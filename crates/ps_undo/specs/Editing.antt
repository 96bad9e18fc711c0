-- What an editor with undo and redo holds, and what its calls make of it.
use Rattle.std.specs.Prelude.{◌≡◌, ◌≢◌, ℕ, Bool, true, false, Option, Some, None, IsSome, Result, Ok, Err, List, [], ◌∷◌, All, take}
use Rattle.std.specs.Option.{option_map}
use Rattle.std.specs.declared.alloc.AllocError.{AllocError}
use Rattle.ps_world.specs.Knowledge.{edited}
use Rattle.ps_world.specs.declared.domains.Domain.{Domain}
use Rattle.ps_world.specs.declared.edits.Edit.{Edit}
use Rattle.ps_world.specs.declared.edits.EditRefusal.{EditRefusal}
use Rattle.ps_world.specs.declared.failures.Failure.{Failure}
use Rattle.ps_world.specs.declared.failures.Failure.TheVariants.{Refused, OutOfMemory}
use Rattle.ps_world.specs.declared.known.Knowledge.{Knowledge}
use Rattle.ps_problem.specs.Patches.{changed}
use Rattle.ps_problem.specs.WellKnown.{IsWellKnown}
use Rattle.ps_undo.specs.Changes.{leading_back}
use Rattle.ps_undo.specs.declared.editing.Editing.{Editing}
use Rattle.ps_undo.specs.declared.editing.UndoRefusal.{UndoRefusal}
use Rattle.ps_undo.specs.declared.steps.Step.{Step}

-- ---- what is held

-- the most edits that can be undone
abbrev pub most_kept : ℕ
most_kept = 64

-- an editor that begins with this knowledge
abbrev pub begun : Knowledge → Editing
begun k = record { now = k; past = []; future = [] }

-- all that is known, was known or may be known again suits the domain
pub record AreWellKnown (d : Domain) (e : Editing) : Type 0 where
  pub now : IsWellKnown d e.now
  pub past : All (λ p. IsWellKnown d p.0) e.past
  pub future : All (λ p. IsWellKnown d p.0) e.future

-- ---- edits

-- after an edit that gave this knowledge: it is kept with what was known before, of too many the oldest is dropped, and nothing can be redone
abbrev pub after_edit : Editing → Edit → Knowledge → Editing
after_edit e x new = record { now = new; past = take most_kept ((e.now, x) ∷ e.past); future = [] }

-- an edit is accepted or refused as what is known says; where knowledge doesn't change, nothing does
abbrev pub EditMakes : Domain → Edit → Editing → Result Bool (Failure EditRefusal) → Editing → Type 0
EditMakes d x old (Ok true) new = (edited d old.now x ≡ Ok new.now) × (new.now ≢ old.now) × (new ≡ after_edit old x new.now)
EditMakes d x old (Ok false) new = (edited d old.now x ≡ Ok old.now) × (new ≡ old)
EditMakes d x old (Err (Refused r)) new = (edited d old.now x ≡ Err r) × (new ≡ old)
EditMakes d x old (Err OutOfMemory) new = new ≡ old

-- whether an edit changed what is known, by what making it answered
abbrev pub has_changed : Result Bool (Failure EditRefusal) → Bool
has_changed (Ok changed) = changed
has_changed (Err why) = false

-- ---- undo and redo

-- the newest edit that can be undone, and what is held after it is undone
abbrev pub undone_by : Knowledge → List (Knowledge × Edit) → List (Knowledge × Edit) → Option (Edit × Editing)
undone_by now [] future = None
undone_by now (p ∷ past) future = Some (p.1, record { now = p.0; past = past; future = (now, p.1) ∷ future })

abbrev pub undone : Editing → Option (Edit × Editing)
undone e = undone_by e.now e.past e.future

-- the same with past and future changed over
abbrev pub turned : Editing → Editing
turned e = record { now = e.now; past = e.future; future = e.past }

abbrev pub redone : Editing → Option (Edit × Editing)
redone e = option_map (λ s. (s.0, turned s.1)) (undone (turned e))

-- a call takes this step and answers its edit, or refuses where there is none; memory runs out only where there is one
abbrev pub Takes : Option (Edit × Editing) → UndoRefusal → Editing → Result Edit (Failure UndoRefusal) → Editing → Type 0
Takes step why old (Ok x) new = step ≡ Some (x, new)
Takes step why old (Err (Refused r)) new = (step ≡ None) × (r ≡ why) × (new ≡ old)
Takes step why old (Err OutOfMemory) new = IsSome step × (new ≡ old)

-- ---- how it is kept

-- what was known at each of these steps, where each change leads on from the knowledge before it
abbrev pub led_by : Knowledge → List Step → List (Knowledge × Edit)
led_by k [] = []
led_by k (s ∷ ss) = (changed k s.change, s.edit) ∷ led_by (changed k s.change) ss

-- the edit of the first step, and the steps without it
abbrev pub Taken : List Step → Option Edit → List Step → Type 0
Taken steps None left = (steps ≡ []) × (left ≡ [])
Taken steps (Some x) left = (s : Step) × (steps ≡ s ∷ left) × (x ≡ s.edit)

-- The first of some steps was taken, and the one that leads back put before others; or there was none, or memory ran out before it.
abbrev pub Goes : Knowledge → List Step → List Step → Result (Option Edit) AllocError → Knowledge → List Step → List Step → Type 0
Goes k from to (Ok None) new left put = (from ≡ []) × (left ≡ from) × (new ≡ k) × (put ≡ to)
Goes k from to (Ok (Some x)) new left put =
    (s : Step) × (from ≡ s ∷ left) × (x ≡ s.edit) × (new ≡ changed k s.change) × (put ≡ record { edit = s.edit; change = leading_back k s.change } ∷ to)
Goes k from to (Err e) new left put = (from ≢ []) × (left ≡ from) × (new ≡ k) × (put ≡ to)

-- what is answered then, with this refusal where there was none
abbrev pub answer_of : Result (Option Edit) AllocError → UndoRefusal → Result Edit (Failure UndoRefusal)
answer_of (Ok (Some x)) why = Ok x
answer_of (Ok None) why = Err (Refused why)
answer_of (Err e) why = Err OutOfMemory
