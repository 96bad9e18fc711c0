-- The notes in the histories of a sound input are in form, and so their entries are read back.
use Rattle.std.proofs.Common.{◌≡◌, ◌==◌, ℕ, zero, suc, ◌&&◌, Bool, true, false, Option, Some, None, IfSome, List, [], ◌∷◌, IsTrue, All, if◌then◌else◌, find, slice_get, option_and_then, refl, arith, ap, ◌∙◌}
use Rattle.std.proofs.lemmas.List.Elements.{All-head, All-push, All-tail}
use Rattle.std.proofs.lemmas.Bool.{and_parts}
use Rattle.ps_world.specs.Lines.{same_text}
use Rattle.ps_world.specs.declared.names.Name.{Name}
use Rattle.ps_world.proofs.SameTexts.{same_text-is}
use Rattle.ps_machine.specs.Tables.{is_note}
use Rattle.ps_machine.specs.declared.inputs.Input.{Input}
use Rattle.ps_machine.specs.declared.members.Unit.{Unit as Task}
use Rattle.ps_machine.specs.declared.members.Unit.TheVariants as unit
use Rattle.ps_machine.specs.declared.journal.Event.{Event}
use Rattle.ps_machine.specs.declared.journal.Event.TheVariants as event
use Rattle.ps_machine.specs.declared.journal.Entry.{Entry}
use Rattle.ps_machine.proofs.EntryLines.{HasNote}
use Rattle.ps_rules.specs.Auctions.{begins, is_for_active, is_working, units_done}
use Rattle.ps_rules.specs.Members.{job, next_unit, performer_of, performers, unit_of}
use Rattle.ps_rules.specs.Legal.{is_feedback, is_legal}
use Rattle.ps_rules.specs.Sound.{IsSound, IsSoundJob, IsSoundPerformer, IsSoundUnit}
use Rattle.ps_rules.specs.Laws.{HistoriesAreReadBack, is_cancel}
use Rattle.ps_rules.proofs.Kept.{fits-legal}
use Rattle.ps_rules.proofs.Going.{by-entry}
use Rattle.ps_rules.proofs.ReadBack.{AreEntriesIn-noted}

-- ---- what is found in a list

-- what holds of all items holds of the one that is found
found-has : {A : Type 0} (P : A → Type 0) (test : A → Bool) (xs : List A) → All P xs → IfSome (find test xs) P
found-has P test [] h = tt
found-has P test (x ∷ xs) h =
    elim (test x) as (λ b. IfSome (if b then Some x else find test xs) P) [
      | true ↦ All-head P x xs h
      | false ↦ found-has P test xs (All-tail P x xs h)
    ]

-- and of the one at a place
pub got-has : {A : Type 0} (P : A → Type 0) (xs : List A) (n : ℕ) → All P xs → IfSome (slice_get xs n) P
got-has P [] n h = tt
got-has P (x ∷ xs) zero h = All-head P x xs h
got-has P (x ∷ xs) (suc n) h = got-has P xs n (All-tail P x xs h)

-- what holds of whatever comes of a value holds of what comes of it where there is one
pub then-has : {A B : Type 0} (P : A → Type 0) (Q : B → Type 0) (f : A → Option B) → ((x : A) → P x → IfSome (f x) Q) → (o : Option A) → IfSome o P
    → IfSome (option_and_then f o) Q
then-has P Q f step None h = tt
then-has P Q f step (Some x) h = step x h

-- ---- notes

-- a performer's next unit is a sound one
next-sound : (i : Input) (r : ℕ) (p : Name) (es : List Entry) → IsSound i → IfSome (next_unit i r p es) IsSoundUnit
next-sound i r p es sound =
    let made : IfSome (option_and_then (λ performer. unit_of performer r p es) (performer_of i p)) IsSoundUnit =
    then-has (IsSoundPerformer i.domain) IsSoundUnit (λ performer. unit_of performer r p es)
    (λ performer h.
    then-has IsSoundJob IsSoundUnit (λ units. slice_get units (units_done r p es)) (λ units g. got-has IsSoundUnit units (units_done r p es) g.each)
    (job performer (begins p es)) (got-has IsSoundJob performer.jobs _ h.jobs))
    (performer_of i p) (found-has (IsSoundPerformer i.domain) _ (performers i) sound.each_performer) in
    elim (is_working r p es && is_for_active r es) as (λ b. IfSome (if b then option_and_then (λ performer. unit_of performer r p es) (performer_of i p) else None) IsSoundUnit) [
      | true ↦ made
      | false ↦ tt
    ]

-- feedback that is a sound unit has a note in form
note-fits : (percent : ℕ) (text : List ℕ) (u : Option Task) → IfSome u IsSoundUnit → is_feedback percent text u ≡ true → IsTrue (is_note text)
note-fits percent text (Some (unit.Feedback p t)) h f =
    ap is_note (same_text-is text t (and_parts (percent == p) (same_text text t) f).1) ∙ h.1
note-fits percent text None h f = absurd (cc)
note-fits percent text (Some unit.Work) h f = absurd (cc)
note-fits percent text (Some (unit.Edit edit)) h f = absurd (cc)
note-fits percent text (Some (unit.Finish ok)) h f = absurd (cc)

note-step : (i : Input) (es : List Entry) (e : Event) → IsSound i → (is_cancel e ≡ false → IsTrue (is_legal i es e)) → HasNote e
note-step i es (event.Feedback r p percent text) sound legal =
    note-fits percent text (next_unit i r p es) (next-sound i r p es sound) (fits-legal i es (event.Feedback r p percent text) (legal refl))
note-step i es e sound legal = tt

pub histories_are_read_back : HistoriesAreReadBack
histories_are_read_back head names i es lines sound h =
    AreEntriesIn-noted head names i es lines
    (by-entry i (λ es. All (λ e. HasNote e.what) es) (λ k d below. absurd (omega (arith, below)))
    (λ es e kept legal. All-push (λ x. HasNote x.what) es e kept (note-step i es e.what sound legal)) es h)
