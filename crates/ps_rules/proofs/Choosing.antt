-- What members and the ticker choose is legal.
use Rattle.std.proofs.Common.{◌≡◌, ◌==◌, ℕ, Bool, true, false, ◌&&◌, if◌then◌else◌, Option, Some, None, is_none, is_ok, Result, Ok, Err, List, [], ◌∷◌, IsTrue, find, filter_map, option_map, option_and_then, length, refl, ap, sym, ◌∙◌, subst}
use Rattle.std.specs.Cmp.{unsigned_Decides}
use Rattle.std.specs.Option.{option_or}
use Rattle.ps_world.specs.Knowledge.{edited}
use Rattle.ps_world.specs.Lines.{same_text}
use Rattle.ps_world.specs.declared.names.Name.{Name}
use Rattle.ps_world.specs.declared.domains.Domain.{Domain}
use Rattle.ps_world.specs.declared.known.Knowledge.{Knowledge}
use Rattle.ps_world.specs.declared.edits.Edit.{Edit}
use Rattle.ps_world.specs.declared.edits.EditRefusal.{EditRefusal}
use Rattle.ps_action.specs.Plans.{judged}
use Rattle.ps_action.specs.Search.{Fits, HasLength, answer as answered_by}
use Rattle.ps_action.specs.declared.acts.Act.{Act}
use Rattle.ps_action.specs.declared.answers.Answer.{Answer}
use Rattle.ps_action.specs.declared.answers.Answer.TheVariants as answer
use Rattle.ps_machine.specs.declared.inputs.Input.{Input}
use Rattle.ps_machine.specs.declared.members.Unit.{Unit as Task}
use Rattle.ps_machine.specs.declared.members.Unit.TheVariants as unit
use Rattle.ps_machine.specs.declared.journal.By.{By}
use Rattle.ps_machine.specs.declared.journal.By.TheVariants as by
use Rattle.ps_machine.specs.declared.journal.Refusal.{Refusal}
use Rattle.ps_machine.specs.declared.journal.Refusal.TheVariants as refusal
use Rattle.ps_machine.specs.declared.journal.Outcome.{Outcome}
use Rattle.ps_machine.specs.declared.journal.Outcome.TheVariants as outcome
use Rattle.ps_machine.specs.declared.journal.Event.{Event}
use Rattle.ps_machine.specs.declared.journal.Event.TheVariants as event
use Rattle.ps_machine.specs.declared.journal.Entry.{Entry}
use Rattle.std.specs.List.{cons_option, range_with_len}
use Rattle.std.proofs.lemmas.Bool.{and_from, and_parts}
use Rattle.ps_world.proofs.Optionals.{is_none-none, some_same}
use Rattle.ps_world.proofs.SameTexts.{same_text-itself}
use Rattle.ps_rules.specs.Auctions.{requests}
use Rattle.ps_rules.specs.Runs.{is_running}
use Rattle.ps_rules.specs.Known.{know}
use Rattle.ps_rules.specs.Lines.{answers_line, edit_refusal}
use Rattle.ps_rules.specs.Members.{as_edit, next_edit, next_seen, next_unit}
use Rattle.ps_rules.specs.Settled.{given_up, is_settled, verdict}
use Rattle.ps_rules.specs.Legal.{ending, is_as_long, is_cause, is_edit, is_feedback, is_finish, is_legal, is_outcome, is_plan, is_work, row_allows, same_flag}
use Rattle.ps_rules.specs.Choices.{Actor, Says, act_turn, edit_event, head_of, edit_outcome, performed, performer_turn, planned, ticked, ticker_turn, turn, unit_event, unit_on, wants_plan, work_of}
use Rattle.ps_rules.specs.Choices.Actor.{performs, observes, ticks}
use Rattle.ps_rules.specs.Laws.{IsSolver, TurnsAreLegal}
use Rattle.ps_rules.proofs.SameThings.{same_cause-decides, same_edit-itself, same_outcome-decides}

-- ---- options and lists

-- what is found passes the test
found-passes : {A : Type 0} (p : A → Bool) (xs : List A) (x : A) → find p xs ≡ Some x → p x ≡ true
found-passes p [] x e = absurd (cc)
found-passes p (y ∷ ys) x e =
    let cases : (b : Bool) → p y ≡ b → (if b then Some y else find p ys) ≡ Some x → p x ≡ true =
    λ b. elim b as (λ b. p y ≡ b → (if b then Some y else find p ys) ≡ Some x → p x ≡ true) [
      | true ↦ λ passed found. ap p (sym (some_same y x found)) ∙ passed
      | false ↦ λ failed found. found-passes p ys x found
    ] in
    cases (p y) refl e

pub same_flag-itself : (b : Bool) → same_flag b b ≡ true
same_flag-itself true = refl
same_flag-itself false = refl

-- ---- what fits is legal

-- in an open run, where it answers no line
pub legal-live : (i : Input) (es : List Entry) (e : Event) → is_running es ≡ true → answers_line e ≡ false → row_allows i es e ≡ true → IsTrue (is_legal i es e)
legal-live i es e live own fit = rw (live, own, fit) refl

-- between runs, where it answers a line
pub legal-between : (i : Input) (es : List Entry) (e : Event) → is_running es ≡ false → answers_line e ≡ true → row_allows i es e ≡ true → IsTrue (is_legal i es e)
legal-between i es e closed own fit = rw (closed, own, fit) refl

-- ---- units

pub own-outcome : (whose : By) (edit : Edit) (why : Option Refusal) → answers_line (event.Edit whose edit) ≡ false → ((w : Refusal) → answers_line (event.Refused whose w) ≡ false)
    → answers_line (edit_outcome whose edit why) ≡ false
own-outcome whose edit None one other = one
own-outcome whose edit (Some w) one other = other w

-- a performer's next edit, accepted or refused
pub performer-edit : (i : Input) (es : List Entry) (r : ℕ) (p : Name) (edit : Edit) → next_edit i r p es ≡ Some edit
    → (o : Result Knowledge EditRefusal) → edited i.domain (know i es) edit ≡ o → row_allows i es (edit_outcome (by.Performer r p) edit (edit_refusal o)) ≡ true
performer-edit i es r p edit next (Ok new) given =
    and_from (is_edit edit (next_edit i r p es)) (is_ok (edited i.domain (know i es) edit)) (ap (is_edit edit) next ∙ same_edit-itself edit) (ap is_ok given)
performer-edit i es r p edit next (Err why) given =
    ap (λ said. is_cause (refusal.Edit why) (option_and_then (λ x. edit_refusal (edited i.domain (know i es) x)) said)) next
    ∙ ap (λ o. is_cause (refusal.Edit why) (edit_refusal o)) given
    ∙ (same_cause-decides (refusal.Edit why) (refusal.Edit why)).1 refl

-- an observer's next edit, accepted or refused
pub observer-edit : (i : Input) (es : List Entry) (o : Name) (edit : Edit) → next_seen i o es ≡ Some edit
    → (r : Result Knowledge EditRefusal) → edited i.domain (know i es) edit ≡ r → row_allows i es (edit_outcome (by.Observer o) edit (edit_refusal r)) ≡ true
observer-edit i es o edit next (Ok new) given =
    and_from (is_edit edit (next_seen i o es)) (is_ok (edited i.domain (know i es) edit)) (ap (is_edit edit) next ∙ same_edit-itself edit) (ap is_ok given)
observer-edit i es o edit next (Err why) given =
    ap (λ said. is_cause (refusal.Edit why) (option_and_then (λ x. edit_refusal (edited i.domain (know i es) x)) said)) next
    ∙ ap (λ r. is_cause (refusal.Edit why) (edit_refusal r)) given
    ∙ (same_cause-decides (refusal.Edit why) (refusal.Edit why)).1 refl

-- what records the next unit fits
pub unit-fits : (i : Input) (es : List Entry) (r : ℕ) (p : Name) (u : Task) → next_unit i r p es ≡ Some u → row_allows i es (unit_event i es r p u) ≡ true
unit-fits i es r p unit.Work next = ap is_work next
unit-fits i es r p (unit.Feedback percent text) next =
    ap (is_feedback percent text) next
    ∙ and_from (percent == percent) (same_text text text) ((unsigned_Decides percent percent).1 refl) (same_text-itself text)
unit-fits i es r p (unit.Edit edit) next = performer-edit i es r p edit (ap (option_and_then as_edit) next) (edited i.domain (know i es) edit) refl
unit-fits i es r p (unit.Finish ok) next = ap (is_finish ok) next ∙ same_flag-itself ok

pub unit-own : (i : Input) (es : List Entry) (r : ℕ) (p : Name) (u : Task) → answers_line (unit_event i es r p u) ≡ false
unit-own i es r p unit.Work = refl
unit-own i es r p (unit.Feedback percent text) = refl
unit-own i es r p (unit.Edit edit) = own-outcome (by.Performer r p) edit (edit_refusal (edited i.domain (know i es) edit)) refl (λ w. refl)
unit-own i es r p (unit.Finish ok) = refl

-- the request that a performer works on is one on which that unit is its next
pub worked-on : (i : Input) (p : Name) (es : List Entry) (rs : List ℕ) (w : ℕ × Task) → head_of (filter_map (unit_on i p es) rs) ≡ Some w → next_unit i w.0 p es ≡ Some w.1
worked-on i p es [] w e = absurd (cc)
worked-on i p es (r ∷ rs) w e =
    let cases : (o : Option Task) → next_unit i r p es ≡ o → head_of (cons_option (option_map (λ u. (r, u)) o) (filter_map (unit_on i p es) rs)) ≡ Some w → next_unit i w.0 p es ≡ Some w.1 =
    λ o. elim o as (λ o. next_unit i r p es ≡ o → head_of (cons_option (option_map (λ u. (r, u)) o) (filter_map (unit_on i p es) rs)) ≡ Some w → next_unit i w.0 p es ≡ Some w.1) [
      | None ↦ λ next found. worked-on i p es rs w found
      | Some u ↦ λ next found.
          let same : (r, u) ≡ w = some_same (r, u) w found in
          subst (λ x. next_unit i x.0 p es ≡ Some x.1) same next
    ] in
    cases (next_unit i r p es) refl e

work-legal : (i : Input) (p : Name) (es : List Entry) (o : Option (ℕ × Task)) (e : Event) → work_of i p es ≡ o → is_running es ≡ true
    → option_map (λ w. unit_event i es w.0 p w.1) o ≡ Some e → IsTrue (is_legal i es e)
work-legal i p es None e worked live made = absurd (cc)
work-legal i p es (Some w) e worked live made =
    let same : unit_event i es w.0 p w.1 ≡ e = some_same (unit_event i es w.0 p w.1) e made in
    let next = worked-on i p es (range_with_len 0 (requests es)) w worked in
    subst (λ x. IsTrue (is_legal i es x)) same
    (legal-live i es (unit_event i es w.0 p w.1) live (unit-own i es w.0 p w.1) (unit-fits i es w.0 p w.1 next))

performer-legal : (i : Input) (p : Name) (es : List Entry) (e : Event) → is_running es ≡ true → performer_turn i p es ≡ Some e → IsTrue (is_legal i es e)
performer-legal i p es e live made =
    let cases : (o : Option Event) → performed i p es ≡ o → option_or o (option_map (λ w. unit_event i es w.0 p w.1) (work_of i p es)) ≡ Some e → IsTrue (is_legal i es e) =
    λ o. elim o as (λ o. performed i p es ≡ o → option_or o (option_map (λ w. unit_event i es w.0 p w.1) (work_of i p es)) ≡ Some e → IsTrue (is_legal i es e)) [
      | None ↦ λ idle worked. work-legal i p es (work_of i p es) e refl live worked
      | Some x ↦ λ chosen found. found-passes (is_legal i es) _ e (chosen ∙ found)
    ] in
    cases (performed i p es) refl made

observer-legal : (i : Input) (o : Name) (es : List Entry) (e : Event) → is_running es ≡ true → (said : Option Edit) → next_seen i o es ≡ said
    → option_map (edit_event i es (by.Observer o)) said ≡ Some e → IsTrue (is_legal i es e)
observer-legal i o es e live None next made = absurd (cc)
observer-legal i o es e live (Some edit) next made =
    let own = own-outcome (by.Observer o) edit (edit_refusal (edited i.domain (know i es) edit)) refl (λ w. refl) in
    subst (λ x. IsTrue (is_legal i es x)) (some_same (edit_event i es (by.Observer o) edit) e made)
    (legal-live i es (edit_event i es (by.Observer o) edit) live own (observer-edit i es o edit next (edited i.domain (know i es) edit) refl))

-- ---- the solver's answer

long-so : (acts : List Act) (a : Answer) → HasLength (length acts) a → is_as_long acts a ≡ true
long-so acts (answer.Plan least) h = (unsigned_Decides (length acts) (length least)).1 (sym h)
long-so acts answer.NoPlan h = absurd h
long-so acts (answer.Spent depth) h = absurd h
long-so acts answer.TooMany h = absurd h

-- a solver's plan is a good one, as short as that of the answer that is due
pub plan-so : (d : Domain) (k : Knowledge) (budget : ℕ) (acts : List Act) → Fits d k budget (answer.Plan acts) → is_plan d k budget acts ≡ true
plan-so d k budget acts h =
    and_from (is_ok (judged d k acts)) (is_as_long acts (answered_by d k budget)) h.0.goes_well (long-so acts (answered_by d k budget) h.1)

-- an end that rests on the answer that is due
ended-so : (i : Input) (es : List Entry) (a : Answer) (how : Outcome) → given_up a ≡ Some how → answered_by i.domain (know i es) i.budget ≡ a → wants_plan i es ≡ true
    → IsTrue (is_legal i es (event.Over how))
ended-so i es a how given due wants =
    let live = and_parts (is_running es) (is_settled i es && is_none (verdict i es)) wants in
    let settled = and_parts (is_settled i es) (is_none (verdict i es)) live.1 in
    let asked = is_none-none (verdict i es) settled.1 in
    let end : ending i es (verdict i es) ≡ Some how = ap (ending i es) asked ∙ ap given_up due ∙ given in
    legal-live i es (event.Over how) live.0 refl
    (and_from (is_settled i es) (is_outcome how (ending i es (verdict i es))) settled.0 (ap (is_outcome how) end ∙ (same_outcome-decides how how).1 refl))

planned-legal : (i : Input) (es : List Entry) (e : Event) (a : Answer) → Fits i.domain (know i es) i.budget a → wants_plan i es ≡ true → planned a ≡ Some e
    → IsTrue (is_legal i es e)
planned-legal i es e (answer.Plan acts) h wants made =
    let live = and_parts (is_running es) (is_settled i es && is_none (verdict i es)) wants in
    let settled = and_parts (is_settled i es) (is_none (verdict i es)) live.1 in
    let fit = and_from (is_settled i es) (is_none (verdict i es) && is_plan i.domain (know i es) i.budget acts) settled.0
    (and_from (is_none (verdict i es)) (is_plan i.domain (know i es) i.budget acts) settled.1 (plan-so i.domain (know i es) i.budget acts h)) in
    subst (λ x. IsTrue (is_legal i es x)) (some_same (event.Replan acts) e made) (legal-live i es (event.Replan acts) live.0 refl fit)
planned-legal i es e answer.NoPlan h wants made =
    subst (λ x. IsTrue (is_legal i es x)) (some_same (event.Over outcome.NoPlan) e made) (ended-so i es answer.NoPlan outcome.NoPlan refl h wants)
planned-legal i es e (answer.Spent depth) h wants made =
    subst (λ x. IsTrue (is_legal i es x)) (some_same (event.Over (outcome.Spent depth)) e made) (ended-so i es (answer.Spent depth) (outcome.Spent depth) refl h wants)
planned-legal i es e answer.TooMany h wants made =
    subst (λ x. IsTrue (is_legal i es x)) (some_same (event.Over outcome.TooMany) e made) (ended-so i es answer.TooMany outcome.TooMany refl h wants)

asked-legal : (says : Says) (i : Input) (es : List Entry) (e : Event) → IsSolver says → (b : Bool) → wants_plan i es ≡ b
    → (if b then planned (says i.domain (know i es) i.budget) else None) ≡ Some e → IsTrue (is_legal i es e)
asked-legal says i es e solver true wants made = planned-legal i es e (says i.domain (know i es) i.budget) (solver i.domain (know i es) i.budget) wants made
asked-legal says i es e solver false wants made = absurd (cc)

ticker-legal : (says : Says) (i : Input) (es : List Entry) (e : Event) → IsSolver says → ticker_turn says i es ≡ Some e → IsTrue (is_legal i es e)
ticker-legal says i es e solver made =
    let asked : Option Event = if wants_plan i es then planned (says i.domain (know i es) i.budget) else None in
    let cases : (o : Option Event) → ticked i es ≡ o → option_or o asked ≡ Some e → IsTrue (is_legal i es e) =
    λ o. elim o as (λ o. ticked i es ≡ o → option_or o asked ≡ Some e → IsTrue (is_legal i es e)) [
      | None ↦ λ idle after. asked-legal says i es e solver (wants_plan i es) refl after
      | Some x ↦ λ chosen found. found-passes (is_legal i es) _ e (chosen ∙ found)
    ] in
    cases (ticked i es) refl made

-- ---- turns

actor-legal : (says : Says) (i : Input) (es : List Entry) (actor : Option Actor) (e : Event) → IsSolver says → is_running es ≡ true
    → option_and_then (act_turn says i es) actor ≡ Some e → IsTrue (is_legal i es e)
actor-legal says i es None e solver live made = absurd (cc)
actor-legal says i es (Some (performs p)) e solver live made = performer-legal i p es e live made
actor-legal says i es (Some (observes o)) e solver live made = observer-legal i o es e live (next_seen i o es) refl made
actor-legal says i es (Some ticks) e solver live made = ticker-legal says i es e solver made

pub turn-live : (says : Says) (i : Input) (es : List Entry) (actor : Option Actor) (e : Event) → turn says i es actor ≡ Some e
    → (is_running es ≡ true) × (option_and_then (act_turn says i es) actor ≡ Some e)
turn-live says i es actor e made =
    let cases : (b : Bool) → (if b then option_and_then (act_turn says i es) actor else None) ≡ Some e → (b ≡ true) × (option_and_then (act_turn says i es) actor ≡ Some e) =
    λ b. elim b as (λ b. (if b then option_and_then (act_turn says i es) actor else None) ≡ Some e → (b ≡ true) × (option_and_then (act_turn says i es) actor ≡ Some e)) [
      | true ↦ λ m. (refl, m)
      | false ↦ λ m. absurd (cc)
    ] in
    cases (is_running es) made

pub turns_are_legal : TurnsAreLegal
turns_are_legal says i es actor e solver made =
    let parts = turn-live says i es actor e made in
    actor-legal says i es actor e solver parts.0 parts.1
