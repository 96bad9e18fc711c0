-- Each legal event of a performer stands in its list or is a unit of its work, and each of an observer is its next edit.
use Rattle.std.proofs.Common.{◌≡◌, ℕ, nat_lt, ◌==◌, ◌&&◌, Bool, true, false, Option, Some, None, is_ok, Contains, List, [], ◌∷◌, ◌++◌, filter_map, option_and_then, option_map, refl, ap, sym, ◌∙◌, subst, inl, inr, ◌⊎◌}
use Rattle.std.proofs.lemmas.Bool.{and_from, ltb-true, and_parts, eq-eqb}
use Rattle.ps_world.specs.Knowledge.{edited}
use Rattle.ps_world.specs.Names.{same_name}
use Rattle.ps_world.specs.declared.names.Name.{Name}
use Rattle.ps_world.proofs.Optionals.{or_none, map_none, some_same}
use Rattle.ps_action.proofs.Facts.{same_name-is}
use Rattle.ps_machine.specs.declared.inputs.Input.{Input}
use Rattle.ps_machine.specs.declared.members.Unit.{Unit as Task}
use Rattle.ps_machine.specs.declared.journal.By.TheVariants as by
use Rattle.ps_machine.specs.declared.journal.PassWhy.{PassWhy}
use Rattle.ps_machine.specs.declared.journal.PassWhy.TheVariants as pass
use Rattle.ps_machine.specs.declared.journal.Event.{Event}
use Rattle.ps_machine.specs.declared.journal.Event.TheVariants as event
use Rattle.ps_machine.specs.declared.journal.Entry.{Entry}
use Rattle.ps_rules.specs.Auctions.{is_unit, requests}
use Rattle.ps_rules.specs.Known.{know}
use Rattle.ps_rules.specs.Lines.{edit_refusal}
use Rattle.ps_rules.specs.Members.{as_edit, is_observed, next_edit, next_seen, next_unit}
use Rattle.ps_rules.specs.Legal.{is_cause, is_edit, is_feedback, is_finish, is_legal, is_work, row_allows}
use Rattle.ps_rules.specs.Choices.{all_requests, answers, beginnings, edit_event, performed, stops, unit_event, unit_on, work_of}
use Rattle.ps_rules.specs.History.{IsHistory}
use Rattle.ps_rules.proofs.Kept.{fits-legal}
use Rattle.ps_rules.proofs.Speaking.{legal_events_speak}
use Rattle.ps_progress_laws.proofs.Lists.{find_none, In, in_flat, in_left, in_map, in_right}
use Rattle.ps_progress_laws.proofs.OneWork.{one_work}
use Rattle.ps_progress_laws.proofs.Picking.{by_test, clash}
use Rattle.ps_progress_laws.proofs.Quiet.{by_option}
use Rattle.ps_choice_laws.specs.Whose.{is_performer_event}
use Rattle.ps_choice_laws.specs.Choosing.{IsWork, ObserversLeaveNothing, performer_choices, PerformersLeaveNothing, PerformersListAll}
use Rattle.ps_choice_laws.proofs.Stood.{head_in, in_mapped, in_of, mapped_in, requested, some_head, stands}

-- a test that nothing fails is passed by something
passed_some : {A C : Type 0} (test : Option A → Bool) → test None ≡ false → (o : Option A) → test o ≡ true → ((x : A) → o ≡ Some x → C) → C
passed_some test none o t f = by_option o (λ n. clash (test None) (sym (ap test n) ∙ t) none) f

module _ (i : Input) (es : List Entry) (h : IsHistory i es) where
  below : (r : ℕ) → nat_lt r (requests es) ≡ true → In r (all_requests es)
  below r t = requested es r (ltb-true r (requests es) t)

  -- ---- before any work

  abbrev answer_to : Name → ℕ → List Event
  answer_to p r = event.Offer r p ∷ event.Pass r p pass.Late ∷ event.Pass r p pass.Other ∷ event.Pass r p pass.Busy ∷ []

  abbrev Among : Name → Event → Type 0
  Among p e = In e (performer_choices p es)

  answers_list : (p : Name) (r : ℕ) (e : Event) → nat_lt r (requests es) ≡ true → In e (answer_to p r) → Among p e
  answers_list p r e l m = in_left e (answers p es) (stops p es ++ beginnings p es) (in_flat (answer_to p) r e (all_requests es) (below r l) m)

  pass_in : (p : Name) (r : ℕ) (why : PassWhy) → In (event.Pass r p why) (answer_to p r)
  pass_in p r pass.Late = inr (inl refl)
  pass_in p r pass.Other = inr (inr (inl refl))
  pass_in p r pass.Busy = inr (inr (inr (inl refl)))

  stop_list : (p : Name) (r : ℕ) → nat_lt r (requests es) ≡ true → Among p (event.Stopped r p)
  stop_list p r l =
      in_right (event.Stopped r p) (answers p es) (stops p es ++ beginnings p es)
      (in_left (event.Stopped r p) (stops p es) (beginnings p es) (in_map (λ r. event.Stopped r p) r (all_requests es) (below r l)))

  begin_list : (p : Name) (r : ℕ) → nat_lt r (requests es) ≡ true → Among p (event.Begin r p)
  begin_list p r l =
      in_right (event.Begin r p) (answers p es) (stops p es ++ beginnings p es)
      (in_right (event.Begin r p) (stops p es) (beginnings p es) (in_map (λ r. event.Begin r p) r (all_requests es) (below r l)))

  -- ---- work

  -- a performer that has a next unit on a request works there
  works_there : (p : Name) (r : ℕ) (u : Task) → nat_lt r (requests es) ≡ true → next_unit i r p es ≡ Some u → (v : Task) × (work_of i p es ≡ Some (r, v))
  works_there p r u l n =
      let m = in_mapped (unit_on i p es) r (r, u) (all_requests es) (below r l) (ap (option_map (λ v. (r, v))) n) in
      let w = some_head (r, u) (filter_map (unit_on i p es) (all_requests es)) m in
      let s = mapped_in (unit_on i p es) w.0 (all_requests es) (head_in w.0 (filter_map (unit_on i p es) (all_requests es)) w.1) in
      by_option (next_unit i s.0 p es)
      (λ none. absurd (let e = sym (ap (option_map (λ v. (s.0, v))) none) ∙ s.2 in cc))
      (λ v some.
      let first : (s.0, v) ≡ w.0 = some_same (s.0, v) w.0 (sym (ap (option_map (λ v. (s.0, v))) some) ∙ s.2) in
      let one = one_work i es h p in
      let same : s.0 ≡ r = one.one s.0 r (one.works s.0 v some) (one.works r u n) in
      (v, w.1 ∙ ap Some (sym first) ∙ ap (λ t. Some (t, v)) same))

  unit_work : (p : Name) (r : ℕ) (e : Event) (test : Option Task → Bool) → test None ≡ false → test (next_unit i r p es) ≡ true
      → nat_lt r (requests es) ≡ true → is_unit r p e ≡ true → IsWork i es p e
  unit_work p r e test none t l unit =
      passed_some test none (next_unit i r p es) t (λ u n. let w = works_there p r u l n in (r, w.0, w.1, unit))

  -- ---- all of them

  pub chosen : (p : Name) (e : Event) → is_performer_event p e ≡ true → is_legal i es e ≡ true → Contains (performer_choices p es) e ⊎ IsWork i es p e
  chosen p (event.Offer r q) own legal =
      inl (stands (event.Offer r q) (performer_choices p es)
      (subst (λ n. In (event.Offer r n) (performer_choices p es)) (same_name-is p q own)
      (answers_list p r (event.Offer r p) (legal_events_speak i es (event.Offer r q) h legal) (inl refl))))
  chosen p (event.Pass r q why) own legal =
      inl (stands (event.Pass r q why) (performer_choices p es)
      (subst (λ n. In (event.Pass r n why) (performer_choices p es)) (same_name-is p q own)
      (answers_list p r (event.Pass r p why) (legal_events_speak i es (event.Pass r q why) h legal) (pass_in p r why))))
  chosen p (event.Begin r q) own legal =
      inl (stands (event.Begin r q) (performer_choices p es)
      (subst (λ n. In (event.Begin r n) (performer_choices p es)) (same_name-is p q own) (begin_list p r (legal_events_speak i es (event.Begin r q) h legal))))
  chosen p (event.Stopped r q) own legal =
      inl (stands (event.Stopped r q) (performer_choices p es)
      (subst (λ n. In (event.Stopped r n) (performer_choices p es)) (same_name-is p q own) (stop_list p r (legal_events_speak i es (event.Stopped r q) h legal))))
  chosen p (event.UnitWork r q) own legal =
      inr (unit_work p r (event.UnitWork r q) is_work refl
      (ap (λ n. is_work (next_unit i r n es)) (same_name-is p q own) ∙ fits-legal i es (event.UnitWork r q) legal)
      (legal_events_speak i es (event.UnitWork r q) h legal) (and_from (r == r) (same_name p q) (eq-eqb r r refl) own))
  chosen p (event.Feedback r q percent text) own legal =
      inr (unit_work p r (event.Feedback r q percent text) (is_feedback percent text) refl
      (ap (λ n. is_feedback percent text (next_unit i r n es)) (same_name-is p q own) ∙ fits-legal i es (event.Feedback r q percent text) legal)
      (legal_events_speak i es (event.Feedback r q percent text) h legal) (and_from (r == r) (same_name p q) (eq-eqb r r refl) own))
  chosen p (event.Finish r q ok) own legal =
      inr (unit_work p r (event.Finish r q ok) (is_finish ok) refl
      (ap (λ n. is_finish ok (next_unit i r n es)) (same_name-is p q own) ∙ fits-legal i es (event.Finish r q ok) legal)
      (legal_events_speak i es (event.Finish r q ok) h legal) (and_from (r == r) (same_name p q) (eq-eqb r r refl) own))
  chosen p (event.Edit (by.Performer r q) edit) own legal =
      inr (unit_work p r (event.Edit (by.Performer r q) edit) (λ u. is_edit edit (option_and_then as_edit u)) refl
      (ap (λ n. is_edit edit (next_edit i r n es)) (same_name-is p q own)
      ∙ (and_parts (is_edit edit (next_edit i r q es)) (is_ok (edited i.domain (know i es) edit)) (fits-legal i es (event.Edit (by.Performer r q) edit) legal)).0)
      (legal_events_speak i es (event.Edit (by.Performer r q) edit) h legal) (and_from (r == r) (same_name p q) (eq-eqb r r refl) own))
  chosen p (event.Refused (by.Performer r q) why) own legal =
      inr (unit_work p r (event.Refused (by.Performer r q) why)
      (λ u. is_cause why (option_and_then (λ edit. edit_refusal (edited i.domain (know i es) edit)) (option_and_then as_edit u))) refl
      (ap (λ n. is_cause why (option_and_then (λ edit. edit_refusal (edited i.domain (know i es) edit)) (next_edit i r n es))) (same_name-is p q own)
      ∙ fits-legal i es (event.Refused (by.Performer r q) why) legal)
      (legal_events_speak i es (event.Refused (by.Performer r q) why) h legal) (and_from (r == r) (same_name p q) (eq-eqb r r refl) own))
  chosen p e own legal = clash (is_performer_event p e) own refl

pub performers_list_all : PerformersListAll
performers_list_all i es h p = record { first = refl; each = chosen i es h p }

pub performers_leave_nothing : PerformersLeaveNothing
performers_leave_nothing i es h p idle e own =
    let two = or_none (performed i p es) (option_map (λ w. unit_event i es w.0 p w.1) (work_of i p es)) idle in
    by_test (is_legal i es e)
    (λ legal. elim (chosen i es h p e own legal) [
      | inl c ↦ find_none (is_legal i es) (performer_choices p es) two.0 e (in_of e (performer_choices p es) c)
      | inr w ↦ absurd (let none = map_none (λ w. unit_event i es w.0 p w.1) (work_of i p es) two.1 in let some = w.2 in cc)
    ])
    (λ f. f)

-- ---- observers

-- who sees nothing to do makes no edit, and none of its edits is refused
no_edit : (i : Input) (es : List Entry) (o : Name) → next_seen i o es ≡ None → (e : Event) → is_observed o e ≡ true → row_allows i es e ≡ true → false ≡ true
no_edit i es o none (event.Edit (by.Observer n) edit) own f =
    ap (λ s. is_edit edit s && is_ok (edited i.domain (know i es) edit)) (sym none)
    ∙ ap (λ n. is_edit edit (next_seen i n es) && is_ok (edited i.domain (know i es) edit)) (same_name-is o n own) ∙ f
no_edit i es o none (event.Refused (by.Observer n) why) own f =
    ap (λ s. is_cause why (option_and_then (λ edit. edit_refusal (edited i.domain (know i es) edit)) s)) (sym none)
    ∙ ap (λ n. is_cause why (option_and_then (λ edit. edit_refusal (edited i.domain (know i es) edit)) (next_seen i n es))) (same_name-is o n own) ∙ f
no_edit i es o none e own f = own

pub observers_leave_nothing : ObserversLeaveNothing
observers_leave_nothing i es o idle e own =
    let none = map_none (edit_event i es (by.Observer o)) (next_seen i o es) idle in
    by_test (is_legal i es e) (λ legal. clash false (no_edit i es o none e own (fits-legal i es e legal)) refl) (λ f. f)
