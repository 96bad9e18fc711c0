-- Legal events of performers and observers are by members of the input.
use Rattle.std.proofs.Common.{◌≡◌, ℕ, ◌&&◌, Bool, true, false, not, Option, Some, None, is_ok, is_some, List, [], ◌∷◌, find, if◌then◌else◌, option_and_then, refl, ap, sym, ◌∙◌, inl, inr}
use Rattle.std.proofs.lemmas.Bool.{and_parts}
use Rattle.ps_world.specs.Knowledge.{edited}
use Rattle.ps_world.specs.Names.{same_name}
use Rattle.ps_world.specs.declared.names.Name.{Name}
use Rattle.ps_world.specs.declared.edits.Edit.{Edit}
use Rattle.ps_world.proofs.Optionals.{some_passed}
use Rattle.ps_world.proofs.SameTexts.{name_itself}
use Rattle.ps_action.proofs.Facts.{same_name-is}
use Rattle.ps_machine.specs.declared.inputs.Input.{Input}
use Rattle.ps_machine.specs.declared.members.Unit.{Unit as Task}
use Rattle.ps_machine.specs.declared.members.Performer.{Performer}
use Rattle.ps_machine.specs.declared.members.Observer.{Observer}
use Rattle.ps_machine.specs.declared.journal.By.TheVariants as by
use Rattle.ps_machine.specs.declared.journal.Event.{Event}
use Rattle.ps_machine.specs.declared.journal.Event.TheVariants as event
use Rattle.ps_machine.specs.declared.journal.Entry.{Entry}
use Rattle.ps_rules.specs.Auctions.{confirmed, has_answered, is_for_active, is_of_run, is_working}
use Rattle.ps_rules.specs.Known.{know}
use Rattle.ps_rules.specs.Lines.{edit_refusal}
use Rattle.ps_rules.specs.Members.{as_edit, is_observed, next_edit, next_seen, next_unit, observer_of, performer_of, performers, seen_by, unit_of}
use Rattle.ps_rules.specs.Legal.{is_cause, is_confirmed, is_edit, is_feedback, is_finish, is_pass, is_work, pass_reason, row_allows}
use Rattle.ps_rules.specs.History.{IsHistory}
use Rattle.ps_rules.proofs.Kept.{confirmed_by, fits-legal}
use Rattle.ps_progress_laws.proofs.Lists.{In}
use Rattle.ps_progress_laws.proofs.Offers.{confirmed_offered, offer_says}
use Rattle.ps_progress_laws.proofs.Passes.{offered_member}
use Rattle.ps_progress_laws.proofs.Picking.{by_test, clash}
use Rattle.ps_choice_laws.specs.Whose.{is_performer_event, MembersAloneAct}

-- who is named by a performer is found by the name
named : (n : Name) (p : Performer) (ps : List Performer) → In p ps → n ≡ p.name → is_some (find (λ performer. same_name n performer.name) ps) ≡ true
named n p [] m e = absurd m
named n p (q ∷ ps) m e =
    by_test (same_name n q.name)
    (λ t. rw t refl)
    (λ t. elim m [
      | inl s ↦ clash (same_name n q.name) (ap (same_name n) (sym (e ∙ ap (λ x. x.name) s)) ∙ name_itself n) t
      | inr h ↦ rw t (named n p ps h e)
    ])

-- a next unit is one of a performer
next_by : (i : Input) (es : List Entry) (r : ℕ) (p : Name) (test : Option Task → Bool) → test None ≡ false → test (next_unit i r p es) ≡ true → is_some (performer_of i p) ≡ true
next_by i es r p test none t = by_works (is_working r p es && is_for_active r es) (performer_of i p) t
  where
    by_works : (b : Bool) (o : Option Performer) → test (if b then option_and_then (λ performer. unit_of performer r p es) o else None) ≡ true → is_some o ≡ true
    by_works true (Some x) t = refl
    by_works true None t = clash (test None) t none
    by_works false o t = clash (test None) t none

module _ (i : Input) (es : List Entry) (h : IsHistory i es) where
  confirmed_takes : (r : ℕ) (p : Name) → is_confirmed r p es ≡ true → is_some (performer_of i p) ≡ true
  confirmed_takes r p c =
      let w = offered_member i es h r p (confirmed_offered i es h r p (confirmed_by p (confirmed r es) c)) in
      named p w.0 (performers i) w.1 w.2

  -- the performer that an event names
  performs : (p q : Name) → same_name p q ≡ true → is_some (performer_of i q) ≡ true → is_some (performer_of i p) ≡ true
  performs p q same m = ap (λ n. is_some (performer_of i n)) (same_name-is p q same) ∙ m

  by_performer : (p : Name) (e : Event) → is_performer_event p e ≡ true → row_allows i es e ≡ true → is_some (performer_of i p) ≡ true
  by_performer p (event.Offer r q) own f = performs p q own (offer_says i es r q f).member
  by_performer p (event.Pass r q why) own f =
      performs p q own (some_passed (λ performer. is_of_run r es && (not (has_answered r q es) && is_pass why (pass_reason performer r es))) (performer_of i q) f)
  by_performer p (event.Begin r q) own f = performs p q own (confirmed_takes r q (and_parts (is_confirmed r q es) _ f).0)
  by_performer p (event.Stopped r q) own f = performs p q own (confirmed_takes r q (and_parts (is_confirmed r q es) _ f).0)
  by_performer p (event.UnitWork r q) own f = performs p q own (next_by i es r q is_work refl f)
  by_performer p (event.Feedback r q percent text) own f = performs p q own (next_by i es r q (is_feedback percent text) refl f)
  by_performer p (event.Finish r q ok) own f = performs p q own (next_by i es r q (is_finish ok) refl f)
  by_performer p (event.Edit (by.Performer r q) edit) own f =
      performs p q own
      (next_by i es r q (λ u. is_edit edit (option_and_then as_edit u)) refl
      (and_parts (is_edit edit (next_edit i r q es)) (is_ok (edited i.domain (know i es) edit)) f).0)
  by_performer p (event.Refused (by.Performer r q) why) own f =
      performs p q own
      (next_by i es r q (λ u. is_cause why (option_and_then (λ edit. edit_refusal (edited i.domain (know i es) edit)) (option_and_then as_edit u))) refl f)
  by_performer p e own f = clash (is_performer_event p e) own refl

-- an edit that is seen is one of an observer
seen_by_one : (i : Input) (es : List Entry) (o n : Name) (test : Option Edit → Bool) → test None ≡ false → same_name o n ≡ true → test (next_seen i n es) ≡ true
    → is_some (observer_of i o) ≡ true
seen_by_one i es o n test none same t = by_found (observer_of i o) (ap (λ n. test (next_seen i n es)) (same_name-is o n same) ∙ t)
  where
    by_found : (x : Option Observer) → test (option_and_then (λ observer. seen_by i observer es) x) ≡ true → is_some x ≡ true
    by_found None t = clash (test None) t none
    by_found (Some x) t = refl

by_observer : (i : Input) (es : List Entry) (o : Name) (e : Event) → is_observed o e ≡ true → row_allows i es e ≡ true → is_some (observer_of i o) ≡ true
by_observer i es o (event.Edit (by.Observer n) edit) own f =
    seen_by_one i es o n (is_edit edit) refl own (and_parts (is_edit edit (next_seen i n es)) (is_ok (edited i.domain (know i es) edit)) f).0
by_observer i es o (event.Refused (by.Observer n) why) own f =
    seen_by_one i es o n (λ s. is_cause why (option_and_then (λ edit. edit_refusal (edited i.domain (know i es) edit)) s)) refl own f
by_observer i es o e own f = clash (is_observed o e) own refl

pub members_alone_act : MembersAloneAct
members_alone_act i es h e legal =
    let f = fits-legal i es e legal in
    record { performer = λ p own. by_performer i es h p e own f; observer = λ o own. by_observer i es o e own f }
