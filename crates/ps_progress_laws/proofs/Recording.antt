-- Who works on a request can record there: its next unit while the act is active, and that it stopped once the act is cancelled.
use Rattle.std.proofs.Common.{◌≡◌, ℕ, ◌&&◌, Bool, true, false, not, Option, Some, None, List, option_and_then, option_map, if◌then◌else◌, refl, ap, sym, ◌∙◌, inl, inr, ◌⊎◌}
use Rattle.std.specs.Option.{option_map_or}
use Rattle.std.proofs.lemmas.Bool.{and_from, not_from_false, eq-eqb}
use Rattle.ps_world.specs.Knowledge.{edited}
use Rattle.ps_world.specs.Names.{same_name}
use Rattle.ps_world.specs.declared.names.Name.{Name}
use Rattle.ps_world.specs.declared.edits.Edit.{Edit}
use Rattle.ps_world.proofs.SameTexts.{name_itself}
use Rattle.ps_world.proofs.Optionals.{some_same}
use Rattle.ps_action.specs.declared.states.ActState.{ActState}
use Rattle.ps_action.specs.declared.states.ActState.TheVariants.{Active, Cancelled}
use Rattle.ps_machine.specs.declared.inputs.Input.{Input}
use Rattle.ps_machine.specs.declared.members.Unit.{Unit as Task}
use Rattle.ps_machine.specs.declared.members.Unit.TheVariants as unit
use Rattle.ps_machine.specs.declared.journal.By.TheVariants as by
use Rattle.ps_machine.specs.declared.journal.Refusal.{Refusal}
use Rattle.ps_machine.specs.declared.journal.Refusal.TheVariants as refusal
use Rattle.ps_machine.specs.declared.journal.Event.{Event}
use Rattle.ps_machine.specs.declared.journal.Event.TheVariants as event
use Rattle.ps_machine.specs.declared.journal.Entry.{Entry}
use Rattle.ps_rules.specs.Runs.{is_active, is_cancelled, is_running, says_plan, state}
use Rattle.ps_rules.specs.Auctions.{act_of, confirmed, is_engaged, is_for_active, is_for_cancelled, is_through, is_working}
use Rattle.ps_rules.specs.Known.{know}
use Rattle.ps_rules.specs.Lines.{answers_line, edit_refusal}
use Rattle.ps_rules.specs.Members.{next_unit, performer_of, unit_of}
use Rattle.ps_rules.specs.Legal.{is_confirmed, row_allows}
use Rattle.ps_rules.specs.Choices.{edit_outcome, unit_event}
use Rattle.ps_rules.specs.History.{IsHistory}
use Rattle.ps_rules.proofs.Choosing.{legal-live, unit-fits}
use Rattle.ps_progress_laws.specs.Working.{unit_due, WhoWorksCanRecord}
use Rattle.ps_progress_laws.proofs.Acting.{standing}
use Rattle.ps_progress_laws.proofs.Engaged.{confirmed_held, engaged_held, held_once, idle_free, working_unfinished}
use Rattle.ps_progress_laws.proofs.Held.{is_held}
use Rattle.ps_progress_laws.proofs.Picking.{by_test, clash}
use Rattle.ps_progress_laws.proofs.Units.{has_unit}
use Rattle.ps_progress_laws.proofs.Working.{confirms, working_confirmed}

-- ---- what records a unit

-- an event answers no line and makes no plan
abbrev IsWork : Event → Type 0
IsWork e = (answers_line e ≡ false) × (says_plan e ≡ None)

outcome_own : (r : ℕ) (p : Name) (edit : Edit) (why : Option Refusal) → IsWork (edit_outcome (by.Performer r p) edit why)
outcome_own r p edit None = (refl, refl)
outcome_own r p edit (Some w) = (refl, refl)

-- what records a unit answers no line and makes no plan
unit_own : (i : Input) (es : List Entry) (r : ℕ) (p : Name) (u : Task) → IsWork (unit_event i es r p u)
unit_own i es r p unit.Work = (refl, refl)
unit_own i es r p (unit.Feedback percent text) = (refl, refl)
unit_own i es r p (unit.Edit edit) = outcome_own r p edit (edit_refusal (edited i.domain (know i es) edit))
unit_own i es r p (unit.Finish ok) = (refl, refl)

-- ---- who works

module _ (i : Input) (es : List Entry) (h : IsHistory i es) (r : ℕ) (p : Name) (works : is_working r p es ≡ true) where
  now : confirmed r es ≡ Some p
  now = working_confirmed i es h r p works

  unfinished : is_through r p es ≡ false
  unfinished = working_unfinished i es h r p works

  held : is_held r p es ≡ true
  held = confirmed_held i es h r p now unfinished

  engaged : is_engaged p es ≡ true
  engaged = (held_once i es h r p held).0

  works_running : is_running es ≡ true
  works_running = by_test (is_running es) (λ t. t) (λ f. absurd (idle_free i es h f p engaged))

  -- the act of its request is active or cancelled
  works_standing : (act : ℕ) × (act_of r es ≡ Some act) × ((state act es ≡ Active) ⊎ (state act es ≡ Cancelled))
  works_standing =
      let w = engaged_held i es h p engaged in
      let a : act_of r es ≡ Some w.1 = ap (λ t. act_of t es) ((held_once i es h r p held).1 w.0 w.3) ∙ w.2 in
      elim (standing i es h r w.1 p held a) [
        | inl on ↦ (w.1, a, on)
        | inr c ↦ clash (same_name p c.0) (ap (same_name p) (some_same c.0 p (sym c.1 ∙ now)) ∙ name_itself p) c.2
      ]

  -- where the act is cancelled it may stop
  stop_fits : is_for_cancelled r es ≡ true → row_allows i es (event.Stopped r p) ≡ true
  stop_fits c =
      and_from (is_confirmed r p es) (not (is_through r p es) && is_for_cancelled r es) (confirms r p es now)
      (and_from (not (is_through r p es)) (is_for_cancelled r es) (not_from_false (is_through r p es) unfinished) c)

-- a test of the state of a request's act
for_state : (r act : ℕ) (es : List Entry) (s : ActState) (test : ActState → Bool) → act_of r es ≡ Some act → state act es ≡ s
    → option_map_or (λ a. test (state a es)) (act_of r es) false ≡ test s
for_state r act es s test a e = ap (λ o. option_map_or (λ a. test (state a es)) o false) a ∙ ap test e

-- while the act is active its next unit is the one that is due
next_due : (i : Input) (es : List Entry) (r : ℕ) (p : Name) (u : Task) → is_working r p es ≡ true → is_for_active r es ≡ true → unit_due i r p es ≡ Some u → next_unit i r p es ≡ Some u
next_due i es r p u works active due =
    ap (λ b. if b then option_and_then (λ performer. unit_of performer r p es) (performer_of i p) else None)
    (and_from (is_working r p es) (is_for_active r es) works active) ∙ due

pub who_works_can_record : WhoWorksCanRecord
who_works_can_record i es sound h r p works =
    let running = works_running i es h r p works in
    let on = works_standing i es h r p works in
    let w = has_unit i sound es h r p works in
    let due : unit_due i r p es ≡ Some w.2 = ap (λ o. option_and_then (λ performer. unit_of performer r p es) o) w.1 ∙ w.3 in
    let what : Event = unit_event i es r p w.2 in
    elim on.2 [
      | inl s ↦
          let active : is_for_active r es ≡ true = for_state r on.0 es Active is_active on.1 s in
          let own = unit_own i es r p w.2 in
          record {
            running = running;
            next = w.2;
            due = due;
            what = what;
            records = ap (λ b. if b then option_map (unit_event i es r p) (unit_due i r p es) else Some (event.Stopped r p)) active
                ∙ ap (option_map (unit_event i es r p)) due;
            legal = legal-live i es what running own.0 (unit-fits i es r p w.2 (next_due i es r p w.2 works active due));
            no_line = own.0;
            no_plan = own.1;
          }
      | inr s ↦
          let inactive : is_for_active r es ≡ false = for_state r on.0 es Cancelled is_active on.1 s in
          record {
            running = running;
            next = w.2;
            due = due;
            what = event.Stopped r p;
            records = ap (λ b. if b then option_map (unit_event i es r p) (unit_due i r p es) else Some (event.Stopped r p)) inactive;
            legal = legal-live i es (event.Stopped r p) running refl (stop_fits i es h r p works (for_state r on.0 es Cancelled is_cancelled on.1 s));
            no_line = refl;
            no_plan = refl;
          }
    ]
