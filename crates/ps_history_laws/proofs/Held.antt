-- An entry of which all can be said, and whose numbers fit their types, is in form with the first of the causes that print so.
use Rattle.std.proofs.Common.{◌≡◌, ℕ, ◌<◌, ◌≤◌, true, ◌&&◌, nat_le, List, [], ◌∷◌, All, length, refl, arith}
use Rattle.std.proofs.lemmas.Bool.{and_from, and_parts}
use Rattle.std.proofs.lemmas.Bool.Decides.{nat_tests}
use Rattle.std.proofs.lemmas.List.Elements.{All-head, All-tail}
use Rattle.std.specs.List.{list_all}
use Rattle.ps_world.specs.Names.{Table}
use Rattle.ps_world.specs.Tables.{IsEditRefusalOf, IsOf}
use Rattle.ps_world.specs.declared.edits.EditRefusal.{EditRefusal}
use Rattle.ps_world.specs.declared.edits.EditRefusal.TheVariants as edit
use Rattle.ps_world.specs.declared.names.Name.{Name}
use Rattle.ps_action.specs.declared.acts.Act.{Act}
use Rattle.ps_action.specs.declared.refusals.GroundRefusal.{GroundRefusal}
use Rattle.ps_action.specs.declared.refusals.GroundRefusal.TheVariants as ground
use Rattle.ps_action.specs.declared.refusals.PlanRefusal.{PlanRefusal}
use Rattle.ps_action.specs.declared.refusals.PlanRefusal.TheVariants as plan
use Rattle.ps_machine.specs.Tables.{IsByOf, IsGroundRefusalOf, IsPlanRefusalOf, IsRefusalOf, is_note}
use Rattle.ps_machine.specs.declared.journal.By.{By}
use Rattle.ps_machine.specs.declared.journal.By.TheVariants as by
use Rattle.ps_machine.specs.declared.journal.Event.{Event}
use Rattle.ps_machine.specs.declared.journal.Event.TheVariants as event
use Rattle.ps_machine.specs.declared.journal.Entry.{Entry}
use Rattle.ps_machine.specs.declared.journal.Refusal.{Refusal}
use Rattle.ps_machine.specs.declared.journal.Refusal.TheVariants as refusal
use Rattle.ps_rules.specs.Same.{first_alike}
use Rattle.ps_script_laws.specs.Sayable.{IsActOf}
use Rattle.ps_entries.specs.Forms.{is_act, is_by, is_byte, is_cause, is_edit_cause, is_event, is_ground_cause, is_known, is_long, is_on_request, is_plan_cause, is_short, may_run}
use Rattle.ps_entry_laws.specs.Laws.{IsEntryOf, IsSayable}
use Rattle.ps_history_laws.specs.Entries.{first_entry, first_event, IsHeld, is_held_by, is_held_cause, is_held_edit_cause, is_held_event, is_held_ground_cause, is_held_plan_cause}
use Rattle.ps_history_laws.proofs.Said.{IsSaid}

module _ (count : ℕ) where
  known-by : (n : Name) → IsOf count n → is_known count n ≡ true
  known-by n h = let lt : n.0 < count = h in grind (arith, nat_tests, lt)

  -- ---- causes

  edit-form : (r : EditRefusal) → is_held_edit_cause r ≡ true → IsEditRefusalOf count r → is_edit_cause count r ≡ true
  edit-form (edit.NoInstance n) held h = known-by n h
  edit-form (edit.Arity want got) held h = held
  edit-form (edit.WrongType at) held h = held
  edit-form r held h = refl

  ground-form : (r : GroundRefusal) → is_held_ground_cause r ≡ true → IsGroundRefusalOf count r → is_ground_cause count r ≡ true
  ground-form (ground.NoInstance n) held h = known-by n h
  ground-form (ground.Arity want got) held h = held
  ground-form (ground.WrongType at) held h = held
  ground-form ground.NoAction held h = refl

  plan-form : (r : PlanRefusal) → is_held_plan_cause r ≡ true → IsPlanRefusalOf count r → is_plan_cause count r ≡ true
  plan-form (plan.Ground at r) held h =
      let parts = and_parts (is_short at) (is_held_ground_cause r) held in
      and_from (is_short at) (is_ground_cause count r) parts.0 (ground-form r parts.1 h)
  plan-form plan.NoGoal held h = refl
  plan-form plan.GoalFalse held h = refl
  plan-form r held h = held

  cause-form : (why : Refusal) → is_held_cause why ≡ true → IsRefusalOf count (first_alike why) → is_cause count (first_alike why) ≡ true
  cause-form (refusal.Line cause) held h = held
  cause-form (refusal.Edit r) held h = edit-form r held h
  cause-form (refusal.Ground (ground.NoInstance n)) held h = known-by n h
  cause-form (refusal.Ground (ground.Arity want got)) held h = held
  cause-form (refusal.Ground (ground.WrongType at)) held h = held
  cause-form (refusal.Ground ground.NoAction) held h = refl
  cause-form (refusal.Plan r) held h = plan-form r held h
  cause-form (refusal.PlanText r) held h = held
  cause-form (refusal.Spent depth) held h = held
  cause-form why held h = refl

  -- ---- events

  by-form : (who : By) → is_held_by who ≡ true → IsByOf count who → is_by count who ≡ true
  by-form (by.Terminal n) held h = held
  by-form (by.Performer r p) held h = and_from (is_long r) (is_known count p) held (known-by p h)
  by-form (by.Observer o) held h = known-by o h

  names-form : (ns : List Name) → All (IsOf count) ns → list_all (is_known count) ns ≡ true
  names-form [] h = refl
  names-form (n ∷ ns) h =
      and_from (is_known count n) (list_all (is_known count) ns) (known-by n (All-head (IsOf count) n ns h)) (names-form ns (All-tail (IsOf count) n ns h))

  act-form : (act : Act) → IsActOf count act → is_act count act ≡ true
  act-form act h =
      let few : length act.args ≤ 6 = h.few in
      and_from (is_known count act.action && list_all (is_known count) act.args) (nat_le (length act.args) 6)
      (and_from (is_known count act.action) (list_all (is_known count) act.args) (known-by act.action h.head) (names-form act.args h.args))
      (grind (arith, nat_tests, few))

  acts-form : (acts : List Act) → All (IsActOf count) acts → list_all (is_act count) acts ≡ true
  acts-form [] h = refl
  acts-form (act ∷ acts) h =
      and_from (is_act count act) (list_all (is_act count) acts) (act-form act (All-head (IsActOf count) act acts h)) (acts-form acts (All-tail (IsActOf count) act acts h))

  call-form : (r : ℕ) (p : Name) → is_long r ≡ true → IsOf count p → is_on_request count r p ≡ true
  call-form r p held h = and_from (is_long r) (is_known count p) held (known-by p h)

event-form : (names : Table) (e : Event) → is_held_event e ≡ true → IsSaid names e → is_event (length names) (first_event e) ≡ true
event-form names (event.Edit who change) held h = by-form (length names) who held h.0
event-form names (event.Refused who why) held h =
    let parts = and_parts (is_held_by who) (is_held_cause why) held in
    and_from (is_by (length names) who) (is_cause (length names) (first_alike why)) (by-form (length names) who parts.0 h.0) (cause-form (length names) why parts.1 h.1)
event-form names (event.Run for acts) held h = and_from (may_run for acts) (list_all (is_act (length names)) acts) h.0 (acts-form (length names) acts h.1)
event-form names (event.Offer r p) held h = call-form (length names) r p held h
event-form names (event.Pass r p why) held h = call-form (length names) r p held h
event-form names (event.Confirm r p) held h = call-form (length names) r p held h
event-form names (event.Reject r p) held h = call-form (length names) r p held h
event-form names (event.Begin r p) held h = call-form (length names) r p held h
event-form names (event.UnitWork r p) held h = call-form (length names) r p held h
event-form names (event.Feedback r p percent text) held h =
    let parts = and_parts (is_long r) (is_byte percent) held in
    let most : percent ≤ 100 = h.1 in
    and_from (is_on_request (length names) r p) (nat_le percent 100 && is_note text) (call-form (length names) r p parts.0 h.0)
    (and_from (nat_le percent 100) (is_note text) (grind (arith, nat_tests, most)) h.2)
event-form names (event.Finish r p ok) held h = call-form (length names) r p held h
event-form names (event.Stopped r p) held h = call-form (length names) r p held h
event-form names (event.Replan acts) held h = acts-form (length names) acts h
event-form names (event.Ask q) held h = refl
event-form names event.Quit held h = refl
event-form names e held h = held

event-sayable : (names : Table) (e : Event) → IsSaid names e → IsSayable names (first_event e)
event-sayable names (event.Edit who change) h = h.1
event-sayable names (event.Ask q) h = h
event-sayable names e h = tt

pub entry-of : (names : Table) (e : Entry) → IsHeld e → IsSaid names e.what → IsEntryOf names (first_entry e)
entry-of names e held h =
    let parts = and_parts (is_byte e.hand) (is_held_event e.what) held in
    record {
      in_form = and_from (is_byte e.hand) (is_event (length names) (first_event e.what)) parts.0 (event-form names e.what parts.1 h);
      sayable = event-sayable names e.what h;
    }
