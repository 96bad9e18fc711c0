-- Stints as they are kept are those that the journal tells.
use Rattle.std.proofs.Common.{◌≡◌, ◌≢◌, ◌⊎◌, ℕ, ◌+◌, ◌-◌, ◌^◌, ◌<◌, ◌==◌, ◌&&◌, ◌||◌, Bool, true, false, List, [], ◌∷◌, ◌++◌, length, take, get_or, refl, ap, sym, ◌∙◌, subst, ⊎_elim, arith}
use Rattle.std.specs.Prelude.{nat_eq, cond, if◌then◌else◌, is_some, Option, Some, None}
use Rattle.std.specs.HashMap.{get}
use Rattle.std.specs.Option.{option_map_or, unwrap_or}
use Rattle.std.proofs.lemmas.Bool.Decides.{eqb_tells}
use Rattle.std.proofs.lemmas.List.{length-take-le, take_more}
use Rattle.ps_world.specs.Names.{same_name}
use Rattle.ps_world.specs.declared.names.Name.{Name}
use Rattle.ps_world.proofs.Truths.{or_false}
use Rattle.ps_machine.specs.declared.journal.By.TheVariants as by
use Rattle.ps_machine.specs.declared.journal.Event.{Event}
use Rattle.ps_machine.specs.declared.journal.Event.TheVariants as event
use Rattle.ps_machine.specs.declared.journal.Entry.{Entry}
use Rattle.ps_rules.specs.Reading.{has_been, read, times}
use Rattle.ps_rules.specs.Auctions.{begins, begins_by, has_begun, is_begin, is_unit, units_done}
use Rattle.ps_rules.proofs.Pushed.{read-push}
use Rattle.ps_ledger.proofs.LegalEvents.{times-most}
use Rattle.ps_reports.specs.Laws.{TurnsAreBegun}
use Rattle.ps_reports.specs.Stints.{HasCounts, TakesEvent, TellsStints, is_stopped, no_stint, stint, stint_at, turn_on, turns, with_event, with_turn, work_by}
use Rattle.ps_reports.specs.declared.stints.Stint.{Stint}
use Rattle.ps_reports.specs.declared.stints.Stints.{Stints}

-- ---- one more entry

begun-so-far : (r : ℕ) (p : Name) (n : ℕ) (o : Option ℕ) (es : List Entry) → (read (with_turn r p) (n, o) es).0 ≡ read (λ k e. if begins_by p e then k + 1 else k) n es
begun-so-far r p n o [] = refl
begun-so-far r p n o (x ∷ es) = begun-so-far r p (if begins_by p x.what then n + 1 else n) (if is_begin r p x.what then Some (n + 1) else o) es

stint-push : (r : ℕ) (p : Name) (h : List Entry) (x : Entry) → stint r p (h ++ x ∷ []) ≡ with_event r p (begins p h) x.what (stint r p h)
stint-push r p h x =
    let turn : turn_on r p (h ++ x ∷ []) ≡ (if is_begin r p x.what then Some (begins p h + 1) else turn_on r p h) =
    ap (λ s. s.1) (read-push (with_turn r p) (0, None) h x) ∙ ap (λ n. if is_begin r p x.what then Some (n + 1) else turn_on r p h) (begun-so-far r p 0 None h) in
    let units : units_done r p (h ++ x ∷ []) ≡ (if is_unit r p x.what then units_done r p h + 1 else units_done r p h) = read-push (λ n e. if is_unit r p e then n + 1 else n) 0 h x in
    let stopped : has_been (is_stopped r p) (h ++ x ∷ []) ≡ (has_been (is_stopped r p) h || is_stopped r p x.what) = read-push (λ found e. found || is_stopped r p e) false h x in
    λ i. record { turn = turn i; units = units i; stopped = stopped i }

pub tells-more : (h : List Entry) (x : Entry) (old new : Stints) → TellsStints h old → TakesEvent x.what old new → TellsStints (h ++ x ∷ []) new
tells-more h x old new tells takes =
    let p = old.name in record {
      begun = takes.begun
          ∙ ap (λ n. if begins_by p x.what then n + 1 else n) tells.begun
          ∙ sym (read-push (λ n e. if begins_by p e then n + 1 else n) 0 h x)
          ∙ ap (λ q. begins q (h ++ x ∷ [])) (sym takes.name);
      each = λ r. takes.each r
          ∙ ap (λ n. with_event r p n x.what (stint_at old r)) tells.begun
          ∙ ap (λ s. with_event r p (begins p h) x.what s) (tells.each r)
          ∙ sym (stint-push r p h x)
          ∙ ap (λ q. stint r q (h ++ x ∷ [])) (sym takes.name);
    }

-- ---- counts fit

pub counts-left : (h : List Entry) (l : Stints) → TellsStints h l → length h < 2 ^ 64 - 1 → HasCounts l
counts-left h l tells short = record {
  begun = let b = tells.begun in let most = times-most (begins_by l.name) 0 h in omega arith;
  units = λ r.
      let u : (stint_at l r).units ≡ units_done r l.name h = ap (λ (s : Stint). s.units) (tells.each r) in
      let most = times-most (is_unit r l.name) 0 h in
      omega arith;
}

pub counts-taken : (h : List Entry) (k : ℕ) (l : Stints) → TellsStints (take k h) l → k < length h → length h < 2 ^ 64 → HasCounts l
counts-taken h k l tells less fits = counts-left (take k h) l tells (let len = length-take-le k h (omega arith) in omega arith)

pub tells-taken : (h : List Entry) (k : ℕ) (x : Entry) (old new : Stints) → k < length h → x ≡ get_or h k x → TellsStints (take k h) old → TakesEvent x.what old new
    → TellsStints (take (k + 1) h) new
tells-taken h k x old new less is tells takes =
    subst (λ es. TellsStints es new) (sym (take_more h k x less ∙ ap (λ y. take k h ++ y ∷ []) (sym is))) (tells-more (take k h) x old new tells takes)

-- ---- an event tells of one request

-- whether an event tells of this performer's work on a request
abbrev is-told : ℕ → Name → Option (ℕ × Name) → Bool
is-told r p o = option_map_or (λ w. (r == w.0) && same_name p w.1) o false

abbrev is-mine : Name → Option (ℕ × Name) → Bool
is-mine p o = option_map_or (λ w. same_name p w.1) o false

no-begin : (r : ℕ) (p : Name) (e : Event) → is-told r p (work_by e) ≡ false → is_begin r p e ≡ false
no-begin r p (event.Begin s q) h = h
no-begin r p e h = refl

no-unit : (r : ℕ) (p : Name) (e : Event) → is-told r p (work_by e) ≡ false → is_unit r p e ≡ false
no-unit r p (event.Edit (by.Performer s q) edit) h = h
no-unit r p (event.Refused (by.Performer s q) why) h = h
no-unit r p (event.UnitWork s q) h = h
no-unit r p (event.Feedback s q percent text) h = h
no-unit r p (event.Finish s q ok) h = h
no-unit r p e h = refl

no-stop : (r : ℕ) (p : Name) (e : Event) → is-told r p (work_by e) ≡ false → is_stopped r p e ≡ false
no-stop r p (event.Stopped s q) h = h
no-stop r p e h = refl

no-beginning : (p : Name) (e : Event) → is-mine p (work_by e) ≡ false → begins_by p e ≡ false
no-beginning p (event.Begin s q) h = h
no-beginning p e h = refl

and-false : (b : Bool) → (b && false) ≡ false
and-false true = refl
and-false false = refl

-- of another request or performer nothing changes
same-stint : (r : ℕ) (p : Name) (n : ℕ) (e : Event) (s : Stint) → is-told r p (work_by e) ≡ false → with_event r p n e s ≡ s
same-stint r p n e s h =
    let turn : (if is_begin r p e then Some (n + 1) else s.turn) ≡ s.turn = ap (λ b. if b then Some (n + 1) else s.turn) (no-begin r p e h) in
    let units : (if is_unit r p e then s.units + 1 else s.units) ≡ s.units = ap (λ b. if b then s.units + 1 else s.units) (no-unit r p e h) in
    let stopped : (s.stopped || is_stopped r p e) ≡ s.stopped = ap (λ b. s.stopped || b) (no-stop r p e h) ∙ or_false s.stopped in
    λ i. record { turn = turn i; units = units i; stopped = stopped i }

-- an event that tells of nobody's work, or of another's, changes nothing
pub unchanged : (e : Event) (l : Stints) → is-mine l.name (work_by e) ≡ false → TakesEvent e l l
unchanged e l other = record {
  name = refl;
  begun = sym (ap (λ b. if b then l.begun + 1 else l.begun) (no-beginning l.name e other));
  each = λ r. sym (same-stint r l.name l.begun e (stint_at l r) (untold r (work_by e) other));
}
  where
    untold : (r : ℕ) (o : Option (ℕ × Name)) → is-mine l.name o ≡ false → is-told r l.name o ≡ false
    untold r None h = refl
    untold r (Some w) h = ap (λ b. (r == w.0) && b) h ∙ and-false (r == w.0)

-- an event that tells of the performer's work changes the stint on its request
pub changed : (e : Event) (r : ℕ) (old new : Stints) → work_by e ≡ Some (r, old.name) → new.name ≡ old.name
    → new.begun ≡ (if begins_by old.name e then old.begun + 1 else old.begun)
    → ((q : ℕ) → get nat_eq new.all q ≡ cond (nat_eq r q) (Some (with_event r old.name old.begun e (stint_at old r))) (get nat_eq old.all q))
    → TakesEvent e old new
changed e r old new is name begun put = record {
  name = name;
  begun = begun;
  each = λ q. ap (λ o. unwrap_or o no_stint) (put q) ∙
      ⊎_elim
      (λ (t : (nat_eq r q ≡ true) × (r ≡ q)).
      ap (λ b. unwrap_or (cond b (Some (with_event r old.name old.begun e (stint_at old r))) (get nat_eq old.all q)) no_stint) t.0
      ∙ ap (λ k. with_event k old.name old.begun e (stint_at old k)) t.1)
      (λ (t : (nat_eq r q ≡ false) × (r ≢ q)).
      ap (λ b. unwrap_or (cond b (Some (with_event r old.name old.begun e (stint_at old r))) (get nat_eq old.all q)) no_stint) t.0
      ∙ sym (same-stint q old.name old.begun e (stint_at old q) (ap (is-told q old.name) is ∙ ap (λ b. b && same_name old.name old.name) (apart q r t.1))))
      (eqb_tells r q);
}
  where
    apart : (q r : ℕ) → r ≢ q → (q == r) ≡ false
    apart q r other = ⊎_elim (λ (t : ((q == r) ≡ true) × (q ≡ r)). absurd (other (sym t.1))) (λ (t : ((q == r) ≡ false) × (q ≢ r)). t.0) (eqb_tells q r)

-- ---- turns

begun-once-more : (n : ℕ) (o : Option ℕ) (b : Bool) → is_some (if b then Some (n + 1) else o) ≡ (is_some o || b)
begun-once-more n None true = refl
begun-once-more n None false = refl
begun-once-more n (Some k) true = refl
begun-once-more n (Some k) false = refl

turn-begun : (r : ℕ) (p : Name) (n : ℕ) (o : Option ℕ) (es : List Entry) → is_some (read (with_turn r p) (n, o) es).1 ≡ read (λ found e. found || is_begin r p e) (is_some o) es
turn-begun r p n o [] = refl
turn-begun r p n o (x ∷ es) =
    turn-begun r p (if begins_by p x.what then n + 1 else n) (if is_begin r p x.what then Some (n + 1) else o) es
    ∙ ap (λ b. read (λ found e. found || is_begin r p e) b es) (begun-once-more n o (is_begin r p x.what))

pub turns_are_begun : TurnsAreBegun
turns_are_begun r p h = turn-begun r p 0 None h
