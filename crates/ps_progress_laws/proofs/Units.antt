-- That who works has a unit.
use Rattle.std.proofs.Common.{◌≡◌, ℕ, zero, suc, ◌+◌, ◌<◌, ◌==◌, ◌&&◌, Bool, true, false, not, Option, Some, None, List, [], ◌∷◌, find, length, slice_get, option_and_then, if◌then◌else◌, refl, arith, ap, sym, ◌∙◌, subst, inl, inr}
use Rattle.std.specs.Option.{unwrap_or}
use Rattle.std.proofs.lemmas.Bool.{and_from, false_from_ne_true, not-true, true≢false, and_parts, eq-eqb}
use Rattle.ps_world.specs.Names.{same_name}
use Rattle.ps_world.specs.declared.names.Name.{Name}
use Rattle.ps_world.specs.Knowledge.{edited}
use Rattle.ps_world.proofs.SameTexts.{name_itself}
use Rattle.ps_action.proofs.Facts.{same_name-is}
use Rattle.ps_machine.specs.declared.inputs.Input.{Input}
use Rattle.ps_machine.specs.declared.members.Unit.{Unit as Task}
use Rattle.ps_machine.specs.declared.members.Unit.TheVariants as unit
use Rattle.ps_machine.specs.declared.members.Performer.{Performer}
use Rattle.ps_machine.specs.declared.journal.By.TheVariants as by
use Rattle.ps_machine.specs.declared.journal.Event.{Event}
use Rattle.ps_machine.specs.declared.journal.Event.TheVariants as event
use Rattle.ps_machine.specs.declared.journal.Entry.{Entry}
use Rattle.ps_rules.specs.Auctions.{begins, begins_by, confirmed, has_begun, is_for_active, is_through, is_unit, is_working, says_working, units_done}
use Rattle.ps_rules.specs.Members.{as_edit, job, next_edit, next_unit, performer_of, performers, unit_of}
use Rattle.ps_rules.specs.Known.{know}
use Rattle.ps_rules.specs.Lines.{edit_refusal}
use Rattle.ps_rules.specs.Legal.{row_allows, is_cause, is_edit, is_confirmed, is_feedback, is_work}
use Rattle.ps_rules.specs.History.{IsHistory}
use Rattle.ps_rules.specs.History.IsHistory.{nothing, block}
use Rattle.ps_rules.specs.Sound.{ends_once, is_end, IsSound}
use Rattle.ps_rules.proofs.Kept.{confirmed_by, fits-legal}
use Rattle.ps_progress_laws.proofs.Acting.{unbegun}
use Rattle.ps_progress_laws.proofs.Blocks.{begins-block, units-block, working-block}
use Rattle.ps_progress_laws.proofs.Engaged.{active_open, confirmed_held, held_once, working_unfinished}
use Rattle.ps_progress_laws.proofs.Held.{is_held}
use Rattle.ps_progress_laws.proofs.Lists.{found_in, In}
use Rattle.ps_progress_laws.proofs.Offers.{confirmed_offered}
use Rattle.ps_progress_laws.proofs.Passes.{offered_member}
use Rattle.ps_progress_laws.proofs.Picking.{at_one, by_test, clash, picked}
use Rattle.ps_progress_laws.proofs.SoundMembers.{job_ends}
use Rattle.ps_progress_laws.proofs.Working.{through_closed, unit_works, working_confirmed}

-- ---- jobs

later_ends : (u v : Task) (us : List Task) → ends_once (u ∷ v ∷ us) ≡ true → ends_once (v ∷ us) ≡ true
later_ends u v us e = (and_parts (not (is_end u)) (ends_once (v ∷ us)) e).1

-- a unit that isn't the one that finishes isn't the last
not_last : (test : Option Task → Bool) → test None ≡ false → ((ok : Bool) → test (Some (unit.Finish ok)) ≡ false) → (us : List Task) (k : ℕ) → ends_once us ≡ true → k < length us → test (slice_get us k) ≡ true → k + 1 < length us
not_last test none fin [] k e l t = absurd (omega (arith, l))
not_last test none fin (u ∷ []) zero e l t = absurd (one_ends u e t)
  where
    one_ends : (u : Task) → is_end u ≡ true → test (Some u) ≡ true → ⊥
    one_ends (unit.Finish ok) e t = clash (test (Some (unit.Finish ok))) t (fin ok)
    one_ends u e t = true≢false (sym e)
not_last test none fin (u ∷ []) (suc k) e l t = absurd (omega (arith, l))
not_last test none fin (u ∷ v ∷ us) zero e l t = omega arith
not_last test none fin (u ∷ v ∷ us) (suc k) e l t =
    let w = not_last test none fin (v ∷ us) k (later_ends u v us e) (omega (arith, l)) t in omega (arith, w)

ends_some : (us : List Task) → ends_once us ≡ true → 0 < length us
ends_some [] e = absurd (cc)
ends_some (u ∷ us) e = omega arith

found_by : (n : Name) (ps : List Performer) → (p : Performer) → In p ps → n ≡ p.name → (q : Performer) × (find (λ performer. same_name n performer.name) ps ≡ Some q)
found_by n [] p h e = absurd h
found_by n (q ∷ ps) p (inl s) e = (q, rw (ap (same_name n) (sym (e ∙ ap (λ x. x.name) s)) ∙ name_itself n) refl)
found_by n (q ∷ ps) p (inr h) e = by_test (same_name n q.name) (λ t. (q, rw t refl)) (λ t. let w = found_by n ps p h e in (w.0, rw t w.1))

-- ---- units

abbrev HasUnits : Input → Name → ℕ → ℕ → Type 0
HasUnits i p begun done =
    (performer : Performer) × (us : List Task) × (performer_of i p ≡ Some performer) × (job performer begun ≡ Some us) × (ends_once us ≡ true) × (done < length us)

-- the next unit of who works
next_is : (i : Input) (es : List Entry) (r : ℕ) (p : Name) (performer : Performer) (us : List Task) → performer_of i p ≡ Some performer → job performer (begins p es) ≡ Some us → unit_of performer r p es ≡ slice_get us (units_done r p es)
next_is i es r p performer us found has = ap (λ o. option_and_then (λ units. slice_get units (units_done r p es)) o) has

-- who works has a job with units left
pub working_units : (i : Input) → IsSound i → (es : List Entry) → IsHistory i es → (r : ℕ) (p : Name) → is_working r p es ≡ true → HasUnits i p (begins p es) (units_done r p es)
working_units i sound _ nothing r p o = absurd (cc)
working_units i sound _ (block es e h legal own) r p o =
    let w = step e.what (fits-legal i es e.what legal) (working_units i sound es h r p) (sym (working-block i es e r p) ∙ o) in
    (w.0, w.1, w.2, ap (job w.0) (begins-block i es e p) ∙ w.3, w.4, subst (λ n. n < length w.1) (sym (units-block i es e r p)) w.5)
  where
    -- after a unit
    did : (s : ℕ) (q : Name) (test : Option Task → Bool) → test None ≡ false → ((ok : Bool) → test (Some (unit.Finish ok)) ≡ false) → test (next_unit i s q es) ≡ true
        → HasUnits i p (begins p es) (units_done r p es) → HasUnits i p (begins p es) (if ((r == s) && same_name p q) then units_done r p es + 1 else units_done r p es)
    did s q test none fin f w =
        by_test ((r == s) && same_name p q)
        (λ t.
        let same = at_one r s p q t in
        let works = unit_works i es s q test none f in
        let now : next_unit i s q es ≡ option_and_then (λ performer. unit_of performer s q es) (performer_of i q) =
        ap (λ b. if b then option_and_then (λ performer. unit_of performer s q es) (performer_of i q) else None) (and_from (is_working s q es) (is_for_active s es) works.0 works.1) in
        let there : next_unit i s q es ≡ slice_get w.1 (units_done r p es) =
        now ∙ ap (λ n. option_and_then (λ performer. unit_of performer s n es) (performer_of i n)) (sym same.1)
        ∙ ap (λ t. option_and_then (λ performer. unit_of performer t p es) (performer_of i p)) (sym same.0)
        ∙ ap (λ o. option_and_then (λ performer. unit_of performer r p es) o) w.2 ∙ next_is i es r p w.0 w.1 w.2 w.3 in
        let l = not_last test none fin w.1 (units_done r p es) w.4 w.5 (sym (ap test there) ∙ f) in
        (w.0, w.1, w.2, w.3, w.4, subst (λ b. (if b then units_done r p es + 1 else units_done r p es) < length w.1) (sym t) l))
        (λ t. (w.0, w.1, w.2, w.3, w.4, subst (λ b. (if b then units_done r p es + 1 else units_done r p es) < length w.1) (sym t) w.5))

    step : (e : Event) → row_allows i es e ≡ true → (is_working r p es ≡ true → HasUnits i p (begins p es) (units_done r p es)) → unwrap_or (says_working r p e) (is_working r p es) ≡ true
        → HasUnits i p (if begins_by p e then begins p es + 1 else begins p es) (if is_unit r p e then units_done r p es + 1 else units_done r p es)
    step (event.Begin s q) f old o =
        let c = and_parts (is_confirmed s q es) _ f in
        let u = and_parts (not (has_begun s q es)) (is_for_active s es) c.1 in
        let now = confirmed_by q (confirmed s es) c.0 in
        elim (picked ((r == s) && same_name p q) true (is_working r p es) true o) [
          | inl w ↦
              let same = at_one r s p q w.0 in
              let m = offered_member i es h s q (confirmed_offered i es h s q now) in
              let found = found_by p (performers i) m.0 m.1 (same.1 ∙ m.2) in
              let us = job_ends i sound found.0 (found_in (λ performer. same_name p performer.name) (performers i) found.0 found.1).0 (begins p es + 1) in
              let fresh : has_begun r p es ≡ false = ap (λ t. has_begun t p es) same.0 ∙ ap (λ n. has_begun s n es) same.1 ∙ not-true (has_begun s q es) u.0 in
              let none = unbegun i es h r p fresh in
              let more = ends_some us.0 us.2 in (
                found.0,
                us.0,
                found.1,
                ap (λ b. job found.0 (if b then begins p es + 1 else begins p es)) (and_parts (r == s) (same_name p q) w.0).1 ∙ us.1,
                us.2,
                omega (arith, none, more),
              )
          | inr w ↦
              let x = old w.1 in
              by_test (same_name p q)
              (λ t.
              let e = same_name-is p q t in
              let through : is_through s q es ≡ false =
              false_from_ne_true (is_through s q es)
              (λ d. elim (through_closed i es h s q d) [ inl b ↦ clash (has_begun s q es) b (not-true (has_begun s q es) u.0) | inr c ↦ active_open s es u.1 c ]) in
              let here = confirmed_held i es h r p (working_confirmed i es h r p w.1) (working_unfinished i es h r p w.1) in
              let there = confirmed_held i es h s q now through in
              let one = (held_once i es h r p here).1 s (ap (λ n. is_held s n es) e ∙ there) in
              clash ((r == s) && same_name p q) (and_from (r == s) (same_name p q) (eq-eqb r s one) t) w.0)
              (λ t. (x.0, x.1, x.2, ap (λ b. job x.0 (if b then begins p es + 1 else begins p es)) t ∙ x.3, x.4, x.5))
        ]
    step (event.Edit (by.Performer s q) edit) f old o = did s q (λ u. is_edit edit (option_and_then as_edit u)) refl (λ ok. refl) (and_parts (is_edit edit (next_edit i s q es)) _ f).0 (old o)
    step (event.Refused (by.Performer s q) why) f old o =
        did s q (λ u. is_cause why (option_and_then (λ edit. edit_refusal (edited i.domain (know i es) edit)) (option_and_then as_edit u))) refl (λ ok. refl) f (old o)
    step (event.UnitWork s q) f old o = did s q is_work refl (λ ok. refl) f (old o)
    step (event.Feedback s q percent text) f old o = did s q (is_feedback percent text) refl (λ ok. refl) f (old o)
    step (event.Finish s q ok) f old o =
        elim (picked ((r == s) && same_name p q) false (is_working r p es) true o) [
          | inl w ↦ absurd (true≢false (sym w.1))
          | inr w ↦ let x = old w.1 in (x.0, x.1, x.2, x.3, x.4, subst (λ b. (if b then units_done r p es + 1 else units_done r p es) < length x.1) (sym w.0) x.5)
        ]
    step (event.Stopped s q) f old o =
        elim (picked ((r == s) && same_name p q) false (is_working r p es) true o) [ inl w ↦ absurd (true≢false (sym w.1)) | inr w ↦ old w.1 ]
    step e f old o = old o

some_at : (us : List Task) (k : ℕ) → k < length us → (u : Task) × (slice_get us k ≡ Some u)
some_at [] k l = absurd (omega (arith, l))
some_at (u ∷ us) zero l = (u, refl)
some_at (u ∷ us) (suc k) l = some_at us k (omega (arith, l))

-- who works has a next unit
pub has_unit : (i : Input) → IsSound i → (es : List Entry) → IsHistory i es → (r : ℕ) (p : Name) → is_working r p es ≡ true
    → (performer : Performer) × (performer_of i p ≡ Some performer) × (u : Task) × (unit_of performer r p es ≡ Some u)
has_unit i sound es h r p o =
    let w = working_units i sound es h r p o in
    let u = some_at w.1 (units_done r p es) w.5 in
    (w.0, w.2, u.0, next_is i es r p w.0 w.1 w.2 w.3 ∙ u.1)
