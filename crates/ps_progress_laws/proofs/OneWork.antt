-- A performer's work is on the one request on which it is engaged, and on none where it isn't engaged.
use Rattle.std.proofs.Common.{◌≡◌, ℕ, ◌&&◌, true, false, not, Option, Some, None, is_some, List, option_and_then, if◌then◌else◌, refl, ap, inl, inr}
use Rattle.std.specs.Option.{option_map_or}
use Rattle.std.proofs.lemmas.Bool.{and_from, and_right, false_from_ne_true, not-true, not_from_false, or_right, and_parts}
use Rattle.ps_world.specs.declared.names.Name.{Name}
use Rattle.ps_machine.specs.declared.inputs.Input.{Input}
use Rattle.ps_machine.specs.declared.members.Unit.{Unit as Task}
use Rattle.ps_machine.specs.declared.journal.Event.TheVariants as event
use Rattle.ps_machine.specs.declared.journal.Entry.{Entry}
use Rattle.ps_rules.specs.Runs.{is_active, is_cancelled, state}
use Rattle.ps_rules.specs.Auctions.{has_begun, has_offered, is_engaged, is_for_active, is_for_cancelled, is_rejected, is_through, is_working}
use Rattle.ps_rules.specs.Members.{next_unit, performer_of, unit_of}
use Rattle.ps_rules.specs.Legal.{is_confirmed, row_allows}
use Rattle.ps_rules.specs.History.{IsHistory}
use Rattle.ps_progress_laws.specs.Engaged.{is_engaged_on}
use Rattle.ps_progress_laws.specs.Working.{IdleHasNoWork, OlderHasNoWork, OneWork}
use Rattle.ps_progress_laws.proofs.Engaged.{active_open, engaged_on_one, working_unfinished}
use Rattle.ps_progress_laws.proofs.Picking.{clash}
use Rattle.ps_progress_laws.proofs.Working.{confirms, through_closed, unit_works, working_confirmed}

-- who was confirmed on a request and isn't through is engaged on it
confirmed_on : (r : ℕ) (p : Name) (es : List Entry) → is_confirmed r p es ≡ true → is_through r p es ≡ false → is_engaged_on r p es ≡ true
confirmed_on r p es c t =
    or_right (has_offered r p es && (not (is_rejected r p es) && not (is_confirmed r p es))) (is_confirmed r p es && not (is_through r p es))
    (and_from (is_confirmed r p es) (not (is_through r p es)) c (not_from_false (is_through r p es) t))

-- who can stop on a request is engaged on it
stops_on : (i : Input) (es : List Entry) (r : ℕ) (p : Name) → row_allows i es (event.Stopped r p) ≡ true → is_engaged_on r p es ≡ true
stops_on i es r p f =
    let w = and_parts (is_confirmed r p es) (not (is_through r p es) && is_for_cancelled r es) f in
    confirmed_on r p es w.0 (not-true (is_through r p es) (and_parts (not (is_through r p es)) (is_for_cancelled r es) w.1).0)

-- who can begin on a request is engaged on it
begins_on : (i : Input) (es : List Entry) → IsHistory i es → (r : ℕ) (p : Name) → row_allows i es (event.Begin r p) ≡ true → is_engaged_on r p es ≡ true
begins_on i es h r p f =
    let w = and_parts (is_confirmed r p es) (not (has_begun r p es) && is_for_active r es) f in
    let u = and_parts (not (has_begun r p es)) (is_for_active r es) w.1 in
    confirmed_on r p es w.0 (false_from_ne_true (is_through r p es) (λ t. elim (through_closed i es h r p t) [
      | inl b ↦ clash (has_begun r p es) b (not-true (has_begun r p es) u.0)
      | inr c ↦ active_open r es u.1 c
    ]))

-- who has a next unit on a request is engaged on it
works_on : (i : Input) (es : List Entry) → IsHistory i es → (r : ℕ) (p : Name) (u : Task) → next_unit i r p es ≡ Some u → is_engaged_on r p es ≡ true
works_on i es h r p u n =
    let works = (unit_works i es r p is_some refl (ap is_some n)).0 in
    confirmed_on r p es (confirms r p es (working_confirmed i es h r p works)) (working_unfinished i es h r p works)

pub one_work : OneWork
one_work i es h p = record {
  stops = λ r. stops_on i es r p;
  begins = λ r. begins_on i es h r p;
  works = λ r. works_on i es h r p;
  one = (engaged_on_one i es h p).on_one;
}

-- ---- no work

-- what is nothing whatever it would be is nothing
nothing_is : {A : Type 0} (o : Option A) → ((x : A) → o ≡ Some x → ⊥) → o ≡ None
nothing_is None n = refl
nothing_is (Some x) n = absurd (n x refl)

pub idle_has_no_work : IdleHasNoWork
idle_has_no_work i es h p idle r =
    let never : is_engaged_on r p es ≡ true → ⊥ = λ o. clash (is_engaged p es) ((engaged_on_one i es h p).on_some.1 (r, o)) idle in
    record {
      stops = false_from_ne_true (row_allows i es (event.Stopped r p)) (λ f. never (stops_on i es r p f));
      begins = false_from_ne_true (row_allows i es (event.Begin r p)) (λ f. never (begins_on i es h r p f));
      works = nothing_is (next_unit i r p es) (λ u n. never (works_on i es h r p u n));
    }

pub older_has_no_work : OlderHasNoWork
older_has_no_work i es r older p =
    let inactive : is_for_active r es ≡ false = ap (λ o. option_map_or (λ act. is_active (state act es)) o false) older in
    let uncancelled : is_for_cancelled r es ≡ false = ap (λ o. option_map_or (λ act. is_cancelled (state act es)) o false) older in
    record {
      stops = and_right (is_confirmed r p es) (not (is_through r p es) && is_for_cancelled r es)
          (and_right (not (is_through r p es)) (is_for_cancelled r es) uncancelled);
      begins = and_right (is_confirmed r p es) (not (has_begun r p es) && is_for_active r es)
          (and_right (not (has_begun r p es)) (is_for_active r es) inactive);
      works = ap (λ b. if b then option_and_then (λ performer. unit_of performer r p es) (performer_of i p) else None)
          (and_right (is_working r p es) (is_for_active r es) inactive);
    }
