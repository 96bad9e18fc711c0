-- A legal event says what can be said.
use Rattle.std.proofs.Common.{◌≡◌, ℕ, ◌+◌, ◌≤◌, ◌==◌, ◌&&◌, ◌||◌, Bool, true, false, not, Option, Some, None, is_none, is_ok, is_some, IfSome, IsTrue, Ok, List, [], ◌∷◌, All, length, option_and_then, refl, sym, subst, ap, ◌∙◌}
use Rattle.std.specs.Option.{option_map_or}
use Rattle.std.proofs.lemmas.Bool.{eqb-true, true≢false, and_parts}
use Rattle.std.proofs.lemmas.Option.{IfSome_then}
use Rattle.std.proofs.lemmas.List.Elements.{All-cons, All-head, All-nil}
use Rattle.ps_world.specs.Lines.{same_text}
use Rattle.ps_world.specs.Names.{Table, same_name}
use Rattle.ps_world.specs.Knowledge.{edited}
use Rattle.ps_world.specs.Tables.{IsOf}
use Rattle.ps_world.specs.declared.edits.Edit.{Edit}
use Rattle.ps_world.specs.declared.known.Knowledge.{Knowledge}
use Rattle.ps_world.specs.declared.names.Name.{Name}
use Rattle.ps_world.proofs.SameTexts.{same_text-is}
use Rattle.ps_action.specs.Grounding.{ground_act}
use Rattle.ps_action.specs.Plans.{judged}
use Rattle.ps_action.specs.Search.{answer as answered_by}
use Rattle.ps_action.specs.declared.acts.Act.{Act}
use Rattle.ps_machine.specs.Tables.{IsRefusalOf, is_note}
use Rattle.ps_machine.specs.declared.inputs.Command.TheVariants as command
use Rattle.ps_machine.specs.declared.inputs.Input.{Input}
use Rattle.ps_machine.specs.declared.inputs.Line.{Line}
use Rattle.ps_machine.specs.declared.inputs.Line.TheVariants.{Good}
use Rattle.ps_machine.specs.declared.inputs.Query.{Query}
use Rattle.ps_machine.specs.declared.members.Performer.{Performer}
use Rattle.ps_machine.specs.declared.members.Unit.{Unit as Task}
use Rattle.ps_machine.specs.declared.members.Unit.TheVariants as unit
use Rattle.ps_machine.specs.declared.journal.By.TheVariants as by
use Rattle.ps_machine.specs.declared.journal.Event.{Event}
use Rattle.ps_machine.specs.declared.journal.Event.TheVariants as event
use Rattle.ps_machine.specs.declared.journal.Entry.{Entry}
use Rattle.ps_machine.specs.declared.journal.Refusal.{Refusal}
use Rattle.ps_machine.specs.declared.journal.Refusal.TheVariants as refusal
use Rattle.ps_machine.specs.declared.journal.RunKind.{RunKind}
use Rattle.ps_machine.specs.declared.journal.RunKind.TheVariants as run
use Rattle.ps_action.specs.declared.refusals.GroundRefusal.TheVariants as ground
use Rattle.ps_action.proofs.Facts.{same_name-is}
use Rattle.ps_rules.specs.Auctions.{confirmed, first_offer, has_answered, has_begun, has_offered, is_for_active, is_for_cancelled, is_of_run, is_open, is_rejected, is_through, offers}
use Rattle.ps_rules.specs.Known.{know}
use Rattle.ps_rules.specs.Legal.{is_accepted, is_as_long, is_cause, is_confirmed, is_edit, is_feedback, is_finish, is_pass, is_plan, is_query, is_work, line_edit, opens_with, pass_reason, row_allows}
use Rattle.ps_rules.specs.Lines.{acts_of, answered, edit_refusal, next_line, refusal_of}
use Rattle.ps_rules.specs.Members.{next_edit, next_seen, next_unit, performer_of}
use Rattle.ps_rules.specs.Runs.{has_run}
use Rattle.ps_rules.specs.Same.{first_alike, same_acts, same_cause, same_edit}
use Rattle.ps_rules.specs.Settled.{is_settled, verdict}
use Rattle.ps_rules.specs.Sound.{IsSound, IsSoundUnit}
use Rattle.ps_rules.proofs.SameThings.{same_acts-decides, same_cause-decides, same_edit-decides, same_query-decides}
use Rattle.ps_rules.proofs.Notes.{then-has}
use Rattle.ps_script_laws.specs.Sayable.{IsActOf, IsEditOf, IsQueryOf}
use Rattle.ps_entries.specs.Forms.{may_run}
use Rattle.ps_history_laws.specs.Inputs.{IsSayableInput, IsSayableLine, IsSayableUnit}
use Rattle.ps_history_laws.proofs.Acts.{act-said, plan-said}
use Rattle.ps_history_laws.proofs.Faults.{AreInstancesOf, edited-gives}
use Rattle.ps_history_laws.proofs.Lines.{edit-named, next-line, refused-line}
use Rattle.ps_history_laws.proofs.Members.{IsWorker, next-edit, next-said, next-seen, next-sound, performer-of}
use Rattle.ps_history_laws.proofs.Said.{IsSaid, IsSaidEntry, confirmed-named, offered-named, offers-named}

-- ---- what a test that is passed says

-- a value that passes the test
test-some : {A : Type 0} (P : A → Type 0) (test : A → Bool) (Q : Type 0) → ((x : A) → P x → test x ≡ true → Q) → (o : Option A) → IfSome o P → option_map_or test o false ≡ true → Q
test-some P test Q step None h passed = absurd (true≢false (sym passed))
test-some P test Q step (Some x) h passed = step x h passed

edit-is : (P : Edit → Type 0) (edit : Edit) (said : Option Edit) → IfSome said P → is_edit edit said ≡ true → P edit
edit-is P edit said h passed = test-some P (same_edit edit) (P edit) (λ other g same. subst P (sym ((same_edit-decides edit other).0 same)) g) said h passed

-- the first cause that prints as one with names of the table has such names
alike-named : (count : ℕ) (why : Refusal) → IsRefusalOf count why → IsRefusalOf count (first_alike why)
alike-named count (refusal.Ground (ground.NoInstance n)) h = h
alike-named count (refusal.Ground (ground.Arity want got)) h = tt
alike-named count (refusal.Ground (ground.WrongType at)) h = tt
alike-named count (refusal.Ground ground.NoAction) h = tt
alike-named count refusal.NoGoal h = tt
alike-named count refusal.NoPredicate h = tt
alike-named count refusal.NoAction h = tt
alike-named count why h = h

-- a cause that prints as the one that is due has names of the table, and so has whoever it is
cause-is : (count : ℕ) (Who : Type 0) (why : Refusal) (given : Option Refusal) → IfSome given (λ why. Who × IsRefusalOf count why) → is_cause why given ≡ true
    → Who × IsRefusalOf count (first_alike why)
cause-is count Who why given h passed =
    test-some (λ why. Who × IsRefusalOf count why) (same_cause why) (Who × IsRefusalOf count (first_alike why))
    (λ other g same. (g.0, subst (IsRefusalOf count) (sym ((same_cause-decides why other).0 same)) (alike-named count other g.1))) given h passed

-- the first of those that offered
first-has : (P : Name → Type 0) (ps : List Name) → All P ps → IfSome (first_offer ps) P
first-has P [] h = tt
first-has P (p ∷ ps) h = All-head P p ps h

-- a unit that passes the test
unit-some : (P : Task → Type 0) (test : Option Task → Bool) → test None ≡ false → (Q : Type 0) → ((u : Task) → P u → Q) → (o : Option Task) → IfSome o P → test o ≡ true → Q
unit-some P test none Q step None h passed = absurd (true≢false (sym passed ∙ none))
unit-some P test none Q step (Some u) h passed = step u h

-- feedback that is a sound unit is a percentage with a note in form
feedback-is : (percent : ℕ) (text : List ℕ) (u : Option Task) → IfSome u IsSoundUnit → is_feedback percent text u ≡ true → (percent ≤ 100) × IsTrue (is_note text)
feedback-is percent text (Some (unit.Feedback p t)) h f =
    let same = and_parts (percent == p) (same_text text t) f in
    (subst (λ n. n ≤ 100) (sym (eqb-true percent p same.0)) h.0, ap is_note (same_text-is text t same.1) ∙ h.1)
feedback-is percent text None h f = absurd (cc)
feedback-is percent text (Some unit.Work) h f = absurd (cc)
feedback-is percent text (Some (unit.Edit edit)) h f = absurd (cc)
feedback-is percent text (Some (unit.Finish ok)) h f = absurd (cc)

module _ (names : Table) (i : Input) (sound : IsSound i) (sayable : IsSayableInput names i) where
  -- ---- lines

  line-edit : (line : Option Line) → IfSome line (IsSayableLine names) → IfSome (line_edit line) (IsEditOf names)
  line-edit (Some (Good (command.Edit edit))) h = h
  line-edit line h = tt

  query-is : (q : Query) (line : Option Line) → IfSome line (IsSayableLine names) → is_query q line ≡ true → IsQueryOf names q
  query-is q (Some (Good (command.Ask said))) h passed = subst (IsQueryOf names) (sym ((same_query-decides q said).0 passed)) h
  query-is q line h passed = absurd (cc)

  plan-is : (k : Knowledge) (acts : List Act) → AreInstancesOf (length names) k.instances → is_plan i.domain k i.budget acts ≡ true → All (IsActOf (length names)) acts
  plan-is k acts named passed =
      plan-said (length names) i.domain sayable.domain k acts named (and_parts (is_ok (judged i.domain k acts)) (is_as_long acts (answered_by i.domain k i.budget)) passed).0

  -- the acts that open a run can be said, and are one where it is of an action
  acts-are : (es : List Entry) → AreInstancesOf (length names) (know i es).instances → (for : RunKind) (acts : List Act) (line : Option Line)
      → opens_with i es for acts line ≡ true → (may_run for acts ≡ true) × All (IsActOf (length names)) acts
  acts-are es named run.Goal acts (Some (Good command.Run)) passed = (refl, plan-is (know i es) acts named passed)
  acts-are es named run.Plan acts (Some (Good (command.RunPlan (Ok steps)))) passed =
      (refl, plan-said (length names) i.domain sayable.domain (know i es) acts named (and_parts (same_acts acts (acts_of steps)) (is_ok (judged i.domain (know i es) acts)) passed).1)
  acts-are es named run.Action acts (Some (Good (command.RunAction act))) passed =
      let parts = and_parts (same_acts acts (act ∷ [])) (is_ok (ground_act i.domain (know i es).instances act)) passed in
      let one : IsActOf (length names) act = act-said (length names) i.domain sayable.domain (know i es).instances named act parts.1 in
      subst (λ (all : List Act). (may_run run.Action all ≡ true) × All (IsActOf (length names)) all) (sym ((same_acts-decides acts (act ∷ [])).0 parts.0))
      (refl, All-cons (IsActOf (length names)) act [] one (All-nil (IsActOf (length names))))
  acts-are es named for acts line passed = absurd (cc)

  -- ---- the table of events

  module _ (es : List Entry) (said : All (IsSaidEntry names) es) (named : AreInstancesOf (length names) (know i es).instances) where
    next : IfSome (next_line i es) (IsSayableLine names)
    next = next-line names i es sayable.lines

    -- the name of whoever it is, and of the cause that is due to an edit
    refused : (Who : Type 0) (edit : Edit) → Who × IsEditOf names edit → IfSome (edit_refusal (edited i.domain (know i es) edit)) (λ why. Who × IsRefusalOf (length names) why)
    refused Who edit h =
        IfSome_then (edit_refusal (edited i.domain (know i es) edit))
        (edit-named (length names) (edited i.domain (know i es) edit) (edited-gives names i.domain (know i es) edit h.1 named)) (λ why g. (h.0, g))

    performer-is : (p : Name) (test : Performer → Bool) → option_map_or test (performer_of i p) false ≡ true → IsOf (length names) p
    performer-is p test passed =
        test-some (IsWorker names i sayable p) test (IsOf (length names) p) (λ performer h same. h.named) (performer_of i p) (performer-of names i sayable p) passed

    worker-is : (r : ℕ) (p : Name) (test : Option Task → Bool) → test None ≡ false → test (next_unit i r p es) ≡ true → IsOf (length names) p
    worker-is r p test none passed =
        unit-some (λ u. IsOf (length names) p × IsSayableUnit names u) test none (IsOf (length names) p) (λ u h. h.0) (next_unit i r p es) (next-said names i sayable r p es) passed

    confirmed-is : (r : ℕ) (p : Name) → is_confirmed r p es ≡ true → IsOf (length names) p
    confirmed-is r p passed =
        test-some (IsOf (length names)) (same_name p) (IsOf (length names) p) (λ q h same. subst (IsOf (length names)) (sym (same_name-is p q same)) h)
        (confirmed r es) (confirmed-named names r es said) passed

    -- an event that fits says what can be said
    pub fitting-said : (e : Event) → row_allows i es e ≡ true → IsSaid names e
    fitting-said (event.Edit (by.Terminal n) edit) f =
        let parts = and_parts (n == answered es + 1) (is_edit edit (line_edit (next_line i es)) && is_ok (edited i.domain (know i es) edit)) f in
        let is = and_parts (is_edit edit (line_edit (next_line i es))) (is_ok (edited i.domain (know i es) edit)) parts.1 in
        (tt, edit-is (IsEditOf names) edit (line_edit (next_line i es)) (line-edit (next_line i es) next) is.0)
    fitting-said (event.Edit (by.Performer r p) edit) f =
        edit-is (λ edit. IsOf (length names) p × IsEditOf names edit) edit (next_edit i r p es) (next-edit names i sayable r p es)
        (and_parts (is_edit edit (next_edit i r p es)) (is_ok (edited i.domain (know i es) edit)) f).0
    fitting-said (event.Edit (by.Observer o) edit) f =
        edit-is (λ edit. IsOf (length names) o × IsEditOf names edit) edit (next_seen i o es) (next-seen names i sayable o es)
        (and_parts (is_edit edit (next_seen i o es)) (is_ok (edited i.domain (know i es) edit)) f).0
    fitting-said (event.Refused (by.Terminal n) why) f =
        let due : Option Refusal = option_and_then (refusal_of i es) (next_line i es) in
        let given : IfSome due (λ why. Unit {0} × IsRefusalOf (length names) why) =
        then-has (IsSayableLine names) (λ why. Unit {0} × IsRefusalOf (length names) why) (refusal_of i es)
        (λ line h. IfSome_then (refusal_of i es line) (refused-line names i.domain i.budget (know i es) (has_run es) line named h) (λ why g. (tt, g))) (next_line i es) next in
        cause-is (length names) (Unit {0}) why due given (and_parts (n == answered es + 1) (is_cause why due) f).1
    fitting-said (event.Refused (by.Performer r p) why) f =
        cause-is (length names) (IsOf (length names) p) why (option_and_then (λ edit. edit_refusal (edited i.domain (know i es) edit)) (next_edit i r p es))
        (then-has (λ edit. IsOf (length names) p × IsEditOf names edit) (λ why. IsOf (length names) p × IsRefusalOf (length names) why)
        (λ edit. edit_refusal (edited i.domain (know i es) edit)) (refused (IsOf (length names) p)) (next_edit i r p es) (next-edit names i sayable r p es)) f
    fitting-said (event.Refused (by.Observer o) why) f =
        cause-is (length names) (IsOf (length names) o) why (option_and_then (λ edit. edit_refusal (edited i.domain (know i es) edit)) (next_seen i o es))
        (then-has (λ edit. IsOf (length names) o × IsEditOf names edit) (λ why. IsOf (length names) o × IsRefusalOf (length names) why)
        (λ edit. edit_refusal (edited i.domain (know i es) edit)) (refused (IsOf (length names) o)) (next_seen i o es) (next-seen names i sayable o es)) f
    fitting-said (event.Ask q) f = query-is q (next_line i es) next (and_parts (is_query q (next_line i es)) (is_accepted i es (next_line i es)) f).0
    fitting-said (event.Run for acts) f = acts-are es named for acts (next_line i es) f
    fitting-said (event.Offer r p) f = performer-is p (λ performer. not (has_answered r p es) && is_none (pass_reason performer r es)) f
    fitting-said (event.Pass r p why) f =
        performer-is p (λ performer. is_of_run r es && (not (has_answered r p es) && is_pass why (pass_reason performer r es))) f
    fitting-said (event.Confirm r p) f =
        test-some (IsOf (length names)) (same_name p) (IsOf (length names) p) (λ q h same. subst (IsOf (length names)) (sym (same_name-is p q same)) h) (first_offer (offers r es))
        (first-has (IsOf (length names)) (offers r es) (offers-named names r es said)) (and_parts (is_open r es) (option_map_or (same_name p) (first_offer (offers r es)) false) f).1
    fitting-said (event.Reject r p) f =
        offered-named names r p es said
        (and_parts (has_offered r p es) (not (is_rejected r p es) && (not (is_confirmed r p es) && (is_some (confirmed r es) || is_for_cancelled r es))) f).0
    fitting-said (event.Begin r p) f = confirmed-is r p (and_parts (is_confirmed r p es) (not (has_begun r p es) && is_for_active r es) f).0
    fitting-said (event.UnitWork r p) f = worker-is r p is_work refl f
    fitting-said (event.Feedback r p percent text) f =
        let told = feedback-is percent text (next_unit i r p es) (next-sound names i sayable r p es sound) f in
        (worker-is r p (is_feedback percent text) refl f, told.0, told.1)
    fitting-said (event.Finish r p ok) f = worker-is r p (is_finish ok) refl f
    fitting-said (event.Stopped r p) f = confirmed-is r p (and_parts (is_confirmed r p es) (not (is_through r p es) && is_for_cancelled r es) f).0
    fitting-said (event.Replan acts) f =
        let parts = and_parts (is_settled i es) (is_none (verdict i es) && is_plan i.domain (know i es) i.budget acts) f in
        plan-is (know i es) acts named (and_parts (is_none (verdict i es)) (is_plan i.domain (know i es) i.budget acts) parts.1).1
    fitting-said e f = tt
