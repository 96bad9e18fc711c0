-- What a board keeps, after each of its calls.
use Rattle.std.proofs.Common.{◌≡◌, ℕ, zero, suc, ◌<◌, ◌==◌, ◌&&◌, Bool, true, false, if◌then◌else◌, Option, Some, None, option_map, IfSome, IsTrue, OnErr, OnOk, Result, Ok, Err, List, [], ◌∷◌, filter_map, find, get_or, length, map, replicate, slice_get, slice_index_or, slice_set, refl, arith, ap, sym, subst, ◌∙◌}
use Rattle.std.specs.List.{cons_option}
use Rattle.std.specs.Option.{option_map_or, unwrap_or}
use Rattle.std.proofs.lemmas.Bool.{cond-false, cond-true, eqb-true, true≢false, and_right}
use Rattle.std.proofs.lemmas.Option.{slice_get-get_or, slice_get_within}
use Rattle.std.proofs.lemmas.List.{length-set}
use Rattle.ps_ledger.proofs.Lists.{at-set}
use Rattle.ps_ledger.specs.Members.{place_in}
use Rattle.ps_world.specs.Names.{object, same_name}
use Rattle.ps_world.specs.Knowledge.{edited}
use Rattle.ps_world.specs.declared.names.Name.{Name}
use Rattle.ps_world.specs.declared.edits.Edit.{Edit}
use Rattle.ps_world.proofs.Optionals.{none_not_some, some_same}
use Rattle.ps_action.proofs.Facts.{same_name-is}
use Rattle.ps_machine.specs.declared.inputs.Input.{Input}
use Rattle.ps_machine.specs.declared.members.Unit.{Unit as Task}
use Rattle.ps_machine.specs.declared.members.Unit.TheVariants as unit
use Rattle.ps_machine.specs.declared.journal.By.TheVariants as by
use Rattle.ps_machine.specs.declared.journal.Refusal.{Refusal}
use Rattle.ps_machine.specs.declared.journal.Event.{Event}
use Rattle.ps_machine.specs.declared.journal.Event.TheVariants as event
use Rattle.ps_machine.specs.declared.journal.Entry.{Entry}
use Rattle.ps_rules.specs.Auctions.{is_for_active, is_last, is_working}
use Rattle.ps_rules.specs.Choices.{all_requests, edit_event, edit_outcome, head_of, observer_turn, unit_event, unit_on, with_block, work_of}
use Rattle.ps_rules.specs.History.{IsHistory}
use Rattle.ps_rules.specs.Known.{know}
use Rattle.ps_rules.specs.Legal.{is_legal}
use Rattle.ps_rules.specs.Lines.{edit_refusal}
use Rattle.ps_rules.specs.Members.{next_seen, next_unit, performers}
use Rattle.ps_rules.specs.Runs.{is_running, says_open}
use Rattle.ps_rules.specs.Sound.{IsSound}
use Rattle.ps_actors.specs.Heard.{HasHeard}
use Rattle.ps_actors.specs.Turns.{is_choice_of}
use Rattle.ps_actors.proofs.First.{passes}
use Rattle.ps_progress_laws.specs.Working.{recorded, unit_due}
use Rattle.ps_progress_laws.proofs.Blocks.{running-block}
use Rattle.ps_progress_laws.proofs.Recording.{who_works_can_record}
use Rattle.ps_board.specs.declared.whole.Parts.{Parts}
use Rattle.ps_board.specs.Parts.{BoardStands, Gains, GainsNothing, with_turn}
use Rattle.ps_board.specs.Grants.{AreOut, granted, performer_names}
use Rattle.ps_board.specs.Kept.{HaveHeard, IsKept, IsShown}
use Rattle.ps_actors.specs.Ticks.{ends_work}
use Rattle.ps_board.proofs.Granting.{heard-turn, names-apart, out-turn, Spares}
use Rattle.ps_board.proofs.Observing.{observer-legal}

-- ---- where nothing is appended, and where something may be

-- after a turn in which nothing opened or ended a run, if something was done, an open one still is
live-turn : (i : Input) (es : List Entry) (hand : ℕ) (done : Option Event) → IfSome done (λ e. says_open e ≡ None) → is_running es ≡ true
    → is_running (option_map_or (with_block i hand es) done es) ≡ true
live-turn i es hand None leaves live = live
live-turn i es hand (Some e) leaves live = running-block i es (record { hand = hand; what = e }) ∙ ap (λ o. unwrap_or o (is_running es)) leaves ∙ live

pub kept-still : (old new : Parts) (grants : List (Option ℕ)) (heard : List ℕ) (halted : Bool) → IsKept old grants heard halted → BoardStands new → IsShown new → new.input ≡ old.input
    → new.entries.items ≡ old.entries.items → IsKept new grants heard halted
kept-still old new grants heard halted k stands shown input entries = record {
  parts = stands;
  shown = shown;
  out = subst (λ i. AreOut i new.entries.items grants) (sym input) (subst (λ es. AreOut old.input es grants) (sym entries) k.out);
  heard = subst (λ i. HaveHeard i new.entries.items heard) (sym input) (subst (λ es. HaveHeard old.input es heard) (sym entries) k.heard);
  live = λ h. ap is_running entries ∙ k.live h;
}

pub kept-turn : (old new : Parts) (hand : ℕ) (grants : List (Option ℕ)) (heard : List ℕ) (halted : Bool) (done : Option Event) → IsKept old grants heard halted → BoardStands new → IsShown new
    → new.input ≡ old.input → new.entries.items ≡ with_turn old hand done → IfSome done (λ e. is_legal old.input old.entries.items e ≡ true) → IfSome done (Spares old.input grants)
    → (halted ≡ true → IfSome done (λ e. says_open e ≡ None)) → IsKept new grants heard halted
kept-turn old new hand grants heard halted done k stands shown input entries legal spares leaves = record {
  parts = stands;
  shown = shown;
  out = subst (λ i. AreOut i new.entries.items grants) (sym input)
      (subst (λ es. AreOut old.input es grants) (sym entries) (out-turn old.input old.entries.items hand grants done k.out spares));
  heard = subst (λ i. HaveHeard i new.entries.items heard) (sym input)
      (subst (λ es. HaveHeard old.input es heard) (sym entries) (heard-turn old.input old.entries.items hand heard done legal k.heard));
  live = λ h. ap is_running entries ∙ live-turn old.input old.entries.items hand done (leaves h) (k.live h);
}

-- after a call that may append this, or run out of memory and append nothing, where the tree is shown then
pub kept-result : {A E : Type 0} (old mid new : Parts) (hand : ℕ) (grants : List (Option ℕ)) (heard : List ℕ) (halted : Bool) (done : Option Event) (r : Result A E)
    → IsKept old grants heard halted → BoardStands new → IsShown new → new.input ≡ mid.input → new.entries.items ≡ mid.entries.items
    → OnOk r (Gains hand done old mid) → OnErr r (GainsNothing old mid) → OnOk r (IfSome done (λ e. is_legal old.input old.entries.items e ≡ true))
    → IfSome done (Spares old.input grants) → (halted ≡ true → IfSome done (λ e. says_open e ≡ None)) → IsKept new grants heard halted
kept-result old mid new hand grants heard halted what (Ok a) k stands shown input entries did err legal spares leaves =
    kept-turn old new hand grants heard halted what k stands shown (input ∙ did.input) (entries ∙ did.entries) legal spares leaves
kept-result old mid new hand grants heard halted what (Err e) k stands shown input entries did err legal spares leaves =
    kept-still old new grants heard halted k stands shown (input ∙ err.input) (entries ∙ err.entries)

-- what isn't halted owes nothing of a halted one
pub not-halted : (halted : Bool) (done : Option Event) → halted ≡ false → halted ≡ true → IfSome done (λ e. says_open e ≡ None)
not-halted halted what goes h = absurd (true≢false (sym h ∙ goes))

pub on-ok : {A E P : Type 0} (r : Result A E) → P → OnOk r P
on-ok (Ok a) p = p
on-ok (Err e) p = tt

pub some-weaker : {A : Type 0} (P Q : A → Type 0) (o : Option A) → ((a : A) → P a → Q a) → IfSome o P → IfSome o Q
some-weaker P Q None f h = tt
some-weaker P Q (Some a) f h = f a h

-- ---- before the first entry

granted-nowhere : (n p r : ℕ) → granted (replicate n None) p ≡ Some r → ⊥
granted-nowhere zero p r e = absurd (cc)
granted-nowhere (suc n) zero r e = absurd (cc)
granted-nowhere (suc n) (suc p) r e = granted-nowhere n p r e

same-everywhere : {A : Type 0} (x : A) (n p : ℕ) → slice_index_or (replicate n x) p x ≡ x
same-everywhere x zero p = refl
same-everywhere x (suc n) zero = refl
same-everywhere x (suc n) (suc p) = same-everywhere x n p

replicated : {A : Type 0} (n : ℕ) (x : A) → length (replicate n x) ≡ n
replicated zero x = refl
replicated (suc n) x = ap suc (replicated n x)

hears-nothing : (name : Name) (es : List Entry) → HasHeard name 0 es
hears-nothing name es = record { heard = λ r lt h. absurd (omega (arith, lt)); there = omega arith }

pub kept-open : (c : Parts) (n : ℕ) → n ≡ length (performers c.input) → BoardStands c → IsShown c → IsKept c (replicate n None) (replicate n 0) false
kept-open c n many stands shown = record {
  parts = stands;
  shown = shown;
  out = record { all = replicated n None ∙ many; working = λ p r name at e. absurd (granted-nowhere n p r e) };
  heard = record {
    all = replicated n 0 ∙ many;
    each = λ p name at. subst (λ u. HasHeard name u c.entries.items) (sym (same-everywhere 0 n p)) (hears-nothing name c.entries.items);
  };
  live = λ h. absurd (true≢false (sym h));
}

-- ---- who is spared

-- where no run is open no grant is out
pub closed-spares : (c : Parts) (grants : List (Option ℕ)) (heard : List ℕ) (halted : Bool) → IsKept c grants heard halted → is_running c.entries.items ≡ false
    → (e : Event) → Spares c.input grants e
closed-spares c grants heard halted k closed e p r name at its =
    let can = who_works_can_record c.input c.entries.items k.parts.sound k.parts.history r name (k.out.working p r name at its) in
    absurd (true≢false (sym can.running ∙ closed))

-- and it isn't halted
pub closed-goes : (halted live : Bool) → (halted ≡ true → live ≡ true) → live ≡ false → halted ≡ false
closed-goes true live h closed = sym (h refl) ∙ closed
closed-goes false live h closed = refl

last-ends : (e : Event) → ends_work e ≡ false → (r : ℕ) (p : Name) → is_last r p e ≡ false
last-ends (event.Finish s q ok) h r p = absurd (cc)
last-ends (event.Stopped s q) h r p = absurd (cc)
last-ends e h r p = refl

pub ticks-spare : (i : Input) (grants : List (Option ℕ)) (e : Event) → ends_work e ≡ false → Spares i grants e
ticks-spare i grants e h p r name at its = last-ends e h r name

outcome-spares : (o : Name) (edit : Edit) (why : Option Refusal) → ends_work (edit_outcome (by.Observer o) edit why) ≡ false
outcome-spares o edit None = refl
outcome-spares o edit (Some w) = refl

pub by-option : {A : Type 0} (P : A → Type 0) (o : Option A) → ((a : A) → o ≡ Some a → P a) → IfSome o P
by-option P None f = tt
by-option P (Some a) f = f a refl

-- what an observer does spares all
pub observers-spare : (i : Input) (grants : List (Option ℕ)) (o : Name) (es : List Entry) → IfSome (observer_turn i o es) (Spares i grants)
observers-spare i grants o es = by-next (next_seen i o es)
  where
    by-next : (next : Option Edit) → IfSome (option_map (edit_event i es (by.Observer o)) next) (Spares i grants)
    by-next None = tt
    by-next (Some edit) = ticks-spare i grants (edit_event i es (by.Observer o) edit) (outcome-spares o edit (edit_refusal (edited i.domain (know i es) edit)))

pub observers-legal : (i : Input) (o : Name) (es : List Entry) → is_running es ≡ true → IfSome (observer_turn i o es) (λ e. is_legal i es e ≡ true)
observers-legal i o es live = by-next (next_seen i o es) refl
  where
    by-next : (next : Option Edit) → next_seen i o es ≡ next → IfSome (option_map (edit_event i es (by.Observer o)) next) (λ e. is_legal i es e ≡ true)
    by-next None is = tt
    by-next (Some edit) is = observer-legal i es o edit live is

-- what is the first legal of a list is legal
pub first-legal : (i : Input) (es : List Entry) (xs : List Event) → IfSome (find (is_legal i es) xs) (λ e. is_legal i es e ≡ true)
first-legal i es xs = by-option (λ e. is_legal i es e ≡ true) (find (is_legal i es) xs) (λ e is. passes (is_legal i es) xs e (sym is))

-- what a performer does before any work spares all others
choice-spares : (e : Event) (n m : Name) (r : ℕ) → is_choice_of n e ≡ true → same_name m n ≡ false → is_last r m e ≡ false
choice-spares (event.Offer s q) n m r its other = refl
choice-spares (event.Pass s q why) n m r its other = refl
choice-spares (event.Begin s q) n m r its other = refl
choice-spares (event.Stopped s q) n m r its other = and_right (r == s) (same_name m q) (ap (same_name m) (sym (same_name-is n q its)) ∙ other)
choice-spares e n m r its other = absurd (true≢false (sym its))

-- so it spares all whose grant is out, where its own isn't
pub performers-spare : (i : Input) → IsSound i → (grants : List (Option ℕ)) (k : ℕ) (n : Name) → slice_get (performer_names i) k ≡ Some n → granted grants k ≡ None
    → (e : Event) → is_choice_of n e ≡ true → Spares i grants e
performers-spare i sound grants k n at none_out e its p r m there out =
    choice-spares e n m r its (names-apart i sound p k m n there at (λ same. none_not_some r (sym none_out ∙ ap (granted grants) (sym same) ∙ out)))

-- what one who works records spares all others
unit-spares : (i : Input) (es : List Entry) (s : ℕ) (q : Name) (u : Task) (r : ℕ) (m : Name) → same_name m q ≡ false → is_last r m (unit_event i es s q u) ≡ false
unit-spares i es s q unit.Work r m other = refl
unit-spares i es s q (unit.Feedback percent text) r m other = refl
unit-spares i es s q (unit.Edit edit) r m other = by-outcome (edit_refusal (edited i.domain (know i es) edit))
  where
    by-outcome : (why : Option Refusal) → is_last r m (edit_outcome (by.Performer s q) edit why) ≡ false
    by-outcome None = refl
    by-outcome (Some w) = refl
unit-spares i es s q (unit.Finish ok) r m other = and_right (r == s) (same_name m q) other

pub recorded-spares : (i : Input) → IsSound i → (es : List Entry) (grants : List (Option ℕ)) (k s : ℕ) (q : Name) → slice_get (performer_names i) k ≡ Some q → granted grants k ≡ None
    → IfSome (recorded i es s q) (Spares i grants)
recorded-spares i sound es grants k s q at none_out = by-active (is_for_active s es) (unit_due i s q es)
  where
    apart : (p r : ℕ) (m : Name) → slice_get (performer_names i) p ≡ Some m → granted grants p ≡ Some r → same_name m q ≡ false
    apart p r m there out = names-apart i sound p k m q there at (λ same. none_not_some r (sym none_out ∙ ap (granted grants) (sym same) ∙ out))

    by-active : (active : Bool) (u : Option Task) → IfSome (if active then option_map (unit_event i es s q) u else Some (event.Stopped s q)) (Spares i grants)
    by-active false u = λ p r m there out. and_right (r == s) (same_name m q) (apart p r m there out)
    by-active true None = tt
    by-active true (Some u) = λ p r m there out. unit-spares i es s q u r m (apart p r m there out)

-- what one who works records leaves the run open
unit-leaves : (i : Input) (es : List Entry) (s : ℕ) (q : Name) (u : Task) → says_open (unit_event i es s q u) ≡ None
unit-leaves i es s q unit.Work = refl
unit-leaves i es s q (unit.Feedback percent text) = refl
unit-leaves i es s q (unit.Edit edit) = by-outcome (edit_refusal (edited i.domain (know i es) edit))
  where
    by-outcome : (why : Option Refusal) → says_open (edit_outcome (by.Performer s q) edit why) ≡ None
    by-outcome None = refl
    by-outcome (Some w) = refl
unit-leaves i es s q (unit.Finish ok) = refl

pub recorded-leaves : (i : Input) (es : List Entry) (s : ℕ) (q : Name) → IfSome (recorded i es s q) (λ e. says_open e ≡ None)
recorded-leaves i es s q = by-active (is_for_active s es) (unit_due i s q es)
  where
    by-active : (active : Bool) (u : Option Task) → IfSome (if active then option_map (unit_event i es s q) u else Some (event.Stopped s q)) (λ e. says_open e ≡ None)
    by-active false u = refl
    by-active true None = tt
    by-active true (Some u) = unit-leaves i es s q u

-- ---- one grant more, and one fewer

pub mapped-length : {A B : Type 0} (f : A → B) (xs : List A) → length (map f xs) ≡ length xs
mapped-length f [] = refl
mapped-length f (x ∷ xs) = ap suc (mapped-length f xs)

pub place-below : (i : Input) (es : List Entry) (grants : List (Option ℕ)) → AreOut i es grants → (k : ℕ) (n : Name) → slice_get (performer_names i) k ≡ Some n → k < length grants
place-below i es grants out k n at =
    subst (λ m. k < m) (mapped-length (λ p. p.name) (performers i) ∙ sym out.all) (slice_get_within (performer_names i) k n at)

pub out-more : (i : Input) (es : List Entry) (grants : List (Option ℕ)) → AreOut i es grants → (k r : ℕ) (n : Name) → slice_get (performer_names i) k ≡ Some n → is_working r n es ≡ true
    → AreOut i es (slice_set grants k (Some r))
out-more i es grants out k r n at works = record {
  all = length-set grants k (Some r) ∙ out.all;
  working = λ p s m there its. by-place p s m there (p == k) refl its;
}
  where
    below : k < length grants
    below = place-below i es grants out k n at

    by-place : (p s : ℕ) (m : Name) → slice_get (performer_names i) p ≡ Some m → (t : Bool) → (p == k) ≡ t → granted (slice_set grants k (Some r)) p ≡ Some s → is_working s m es ≡ true
    by-place p s m there true same its =
        let r_is : r ≡ s = some_same r s (sym (at-set grants k p (Some r) None true same below) ∙ its) in
        let m_is : m ≡ n = some_same m n (sym there ∙ ap (slice_get (performer_names i)) (eqb-true p k same) ∙ at) in
        ap (λ x. is_working x m es) (sym r_is) ∙ ap (λ x. is_working r x es) m_is ∙ works
    by-place p s m there false other its = out.working p s m there (sym (at-set grants k p (Some r) None false other below) ∙ its)

pub out-fewer : (i : Input) (es : List Entry) (grants : List (Option ℕ)) → AreOut i es grants → (k : ℕ) → k < length grants → AreOut i es (slice_set grants k None)
out-fewer i es grants out k below = record {
  all = length-set grants k None ∙ out.all;
  working = λ p s m there its. by-place p s m there (p == k) refl its;
}
  where
    by-place : (p s : ℕ) (m : Name) → slice_get (performer_names i) p ≡ Some m → (t : Bool) → (p == k) ≡ t → granted (slice_set grants k None) p ≡ Some s → is_working s m es ≡ true
    by-place p s m there true same its = none_not_some s (sym (at-set grants k p None None true same below) ∙ its)
    by-place p s m there false other its = out.working p s m there (sym (at-set grants k p None None false other below) ∙ its)

-- where a performer has a unit next it works
work-on : (i : Input) (n : Name) (es : List Entry) (rs : List ℕ) (r : ℕ) (u : Task) → head_of (filter_map (unit_on i n es) rs) ≡ Some (r, u) → next_unit i r n es ≡ Some u
work-on i n es [] r u e = absurd (cc)
work-on i n es (s ∷ rs) r u e = by-next (work-on i n es rs r u) (next_unit i s n es) refl e
  where
    by-next : (head_of (filter_map (unit_on i n es) rs) ≡ Some (r, u) → next_unit i r n es ≡ Some u) → (next : Option Task) → next_unit i s n es ≡ next
        → head_of (cons_option (option_map (λ v. (s, v)) next) (filter_map (unit_on i n es) rs)) ≡ Some (r, u) → next_unit i r n es ≡ Some u
    by-next later None is e = later e
    by-next later (Some v) is e =
        let pair = some_same (s, v) (r, u) e in
        ap (λ t. next_unit i t n es) (sym (ap (λ p. p.0) pair)) ∙ is ∙ ap Some (ap (λ p. p.1) pair)

pub work-works : (i : Input) (n : Name) (es : List Entry) (r : ℕ) (u : Task) → work_of i n es ≡ Some (r, u)
    → (is_working r n es ≡ true) × (is_for_active r es ≡ true) × (unit_due i r n es ≡ Some u)
work-works i n es r u e = by-tests (is_working r n es) (is_for_active r es) (work-on i n es (all_requests es) r u e)
  where
    by-tests : (a b : Bool) → (if a && b then unit_due i r n es else None) ≡ Some u → (a ≡ true) × (b ≡ true) × (unit_due i r n es ≡ Some u)
    by-tests true true e = (refl, refl, e)
    by-tests true false e = none_not_some u e
    by-tests false b e = none_not_some u e

-- ---- what one who works records may come

pub unit-legal : (i : Input) (es : List Entry) → IsSound i → IsHistory i es → (r : ℕ) (p : Name) → is_working r p es ≡ true → is_for_active r es ≡ true → (u : Task) → unit_due i r p es ≡ Some u
    → IsTrue (is_legal i es (unit_event i es r p u))
unit-legal i es sound h r p works active u due =
    let can = who_works_can_record i es sound h r p works in
    let records : recorded i es r p ≡ Some (unit_event i es r p u) =
    ap (λ b. if b then option_map (unit_event i es r p) (unit_due i r p es) else Some (event.Stopped r p)) active ∙ ap (option_map (unit_event i es r p)) due in
    subst (λ e. IsTrue (is_legal i es e)) (some_same can.what (unit_event i es r p u) (sym can.records ∙ records)) can.legal

pub stop-legal : (i : Input) (es : List Entry) → IsSound i → IsHistory i es → (r : ℕ) (p : Name) → is_working r p es ≡ true → is_for_active r es ≡ false
    → IsTrue (is_legal i es (event.Stopped r p))
stop-legal i es sound h r p works shut =
    let can = who_works_can_record i es sound h r p works in
    let records : recorded i es r p ≡ Some (event.Stopped r p) =
    ap (λ b. if b then option_map (unit_event i es r p) (unit_due i r p es) else Some (event.Stopped r p)) shut in
    subst (λ e. IsTrue (is_legal i es e)) (some_same can.what (event.Stopped r p) (sym can.records ∙ records)) can.legal

pub recorded-legal : (i : Input) (es : List Entry) → IsSound i → IsHistory i es → (r : ℕ) (p : Name) → is_working r p es ≡ true → IfSome (recorded i es r p) (λ e. is_legal i es e ≡ true)
recorded-legal i es sound h r p works =
    let can = who_works_can_record i es sound h r p works in
    by-option (λ e. is_legal i es e ≡ true) (recorded i es r p) (λ e is. ap (is_legal i es) (some_same e can.what (sym is ∙ can.records)) ∙ can.legal)

-- ---- the name at a place, and the grant there

pub granted-below : (grants : List (Option ℕ)) (p r : ℕ) → granted grants p ≡ Some r → p < length grants
granted-below [] p r e = none_not_some r e
granted-below (g ∷ gs) zero r e = omega arith
granted-below (g ∷ gs) (suc p) r e = let lt = granted-below gs p r e in omega (arith, lt)

pub place-there : (names : List Name) (n : Name) → place_in names n < length names → slice_get names (place_in names n) ≡ Some n
place-there [] n lt = absurd (omega (arith, lt))
place-there (m ∷ ms) n lt = by-first (place-there ms n) (same_name n m) refl
  where
    by-first : (place_in ms n < length ms → slice_get ms (place_in ms n) ≡ Some n) → (b : Bool) → same_name n m ≡ b → slice_get (m ∷ ms) (place_in (m ∷ ms) n) ≡ Some n
    by-first rest true t = ap (slice_get (m ∷ ms)) (cond-true (same_name n m) 0 (suc (place_in ms n)) t) ∙ ap Some (sym (same_name-is n m t))
    by-first rest false t =
        let is : place_in (m ∷ ms) n ≡ suc (place_in ms n) = cond-false (same_name n m) 0 (suc (place_in ms n)) t in
        ap (slice_get (m ∷ ms)) is ∙ rest (omega (arith, lt, is))

-- where no run is open no grant is out
pub closed-in : (c : Parts) (grants : List (Option ℕ)) (heard : List ℕ) (halted : Bool) → IsKept c grants heard halted → is_running c.entries.items ≡ false
    → (p : ℕ) → granted grants p ≡ None
closed-in c grants heard halted k closed p = by-grant (granted grants p) refl
  where
    by-grant : (g : Option ℕ) → granted grants p ≡ g → g ≡ None
    by-grant None its = refl
    by-grant (Some r) its =
        let names : List Name = performer_names c.input in
        let below : p < length names = subst (λ n. p < n) (k.out.all ∙ sym (mapped-length (λ p. p.name) (performers c.input))) (granted-below grants p r its) in
        let name : Name = get_or names p (object) in
        let can = who_works_can_record c.input c.entries.items k.parts.sound k.parts.history r name (k.out.working p r name (slice_get-get_or names p object below) its) in
        absurd (true≢false (sym can.running ∙ closed))

-- the performer whose grant is out stands at its place
pub granted-named : (i : Input) (es : List Entry) (grants : List (Option ℕ)) → AreOut i es grants → (r : ℕ) (n : Name) → granted grants (place_in (performer_names i) n) ≡ Some r
    → slice_get (performer_names i) (place_in (performer_names i) n) ≡ Some n
granted-named i es grants out r n its =
    place-there (performer_names i) n
    (subst (λ m. place_in (performer_names i) n < m) (out.all ∙ sym (mapped-length (λ p. p.name) (performers i))) (granted-below grants (place_in (performer_names i) n) r its))

-- ---- what was heard

pub heard-more : (i : Input) (es : List Entry) (heard : List ℕ) → HaveHeard i es heard → (k upto : ℕ) (n : Name) → slice_get (performer_names i) k ≡ Some n → HasHeard n upto es
    → HaveHeard i es (slice_set heard k upto)
heard-more i es heard have k upto n at hears = record {
  all = length-set heard k upto ∙ have.all;
  each = λ p m there. by-place p m there (p == k) refl;
}
  where
    below : k < length heard
    below = subst (λ m. k < m) (mapped-length (λ p. p.name) (performers i) ∙ sym have.all) (slice_get_within (performer_names i) k n at)

    by-place : (p : ℕ) (m : Name) → slice_get (performer_names i) p ≡ Some m → (t : Bool) → (p == k) ≡ t → HasHeard m (slice_index_or (slice_set heard k upto) p 0) es
    by-place p m there true same =
        let m_is : m ≡ n = some_same m n (sym there ∙ ap (slice_get (performer_names i)) (eqb-true p k same) ∙ at) in
        subst (λ u. HasHeard m u es) (sym (at-set heard k p upto 0 true same below)) (subst (λ x. HasHeard x upto es) (sym m_is) hears)
    by-place p m there false other = subst (λ u. HasHeard m u es) (sym (at-set heard k p upto 0 false other below)) (have.each p m there)

pub kept-heard : (c : Parts) (grants : List (Option ℕ)) (heard : List ℕ) (halted : Bool) → IsKept c grants heard halted → (k upto : ℕ) (n : Name) → slice_get (performer_names c.input) k ≡ Some n
    → HasHeard n upto c.entries.items → IsKept c grants (slice_set heard k upto) halted
kept-heard c grants heard halted kept k upto n at hears = record {
  parts = kept.parts;
  shown = kept.shown;
  out = kept.out;
  heard = heard-more c.input c.entries.items heard kept.heard k upto n at hears;
  live = kept.live;
}
