-- Which offer is rejected first.
use Rattle.std.proofs.Common.{◌≡◌, ℕ, ◌<◌, ◌≤◌, ◌==◌, ◌&&◌, ◌||◌, not, nat_lt, Bool, true, false, Option, Some, None, is_some, if◌then◌else◌, IsTrue, List, [], ◌∷◌, ◌++◌, find, map, refl, ap, sym, arith, subst, ◌∙◌}
use Rattle.std.proofs.lemmas.Bool.{eqb-true, or_right, or_left}
use Rattle.std.proofs.lemmas.Bool.Decides.{nat_tests}
use Rattle.std.proofs.lemmas.List.{map-append}
use Rattle.std.proofs.lemmas.List.Folds.{find-append}
use Rattle.std.specs.List.{AllByRecursion}
use Rattle.std.specs.Option.{option_map_or, option_or}
use Rattle.ps_world.specs.Names.{same_name}
use Rattle.ps_world.specs.declared.names.Name.{Name}
use Rattle.ps_world.proofs.Truths.{or_false}
use Rattle.ps_world.proofs.SameTexts.{name_itself}
use Rattle.ps_machine.specs.declared.inputs.Input.{Input}
use Rattle.ps_machine.specs.declared.journal.Event.{Event}
use Rattle.ps_machine.specs.declared.journal.Event.TheVariants as event
use Rattle.ps_machine.specs.declared.journal.Entry.{Entry}
use Rattle.ps_rules.specs.Auctions.{confirmed, has_offered, is_for_cancelled, is_reject, is_rejected, offers, requests, says_offer}
use Rattle.ps_rules.specs.Choices.{rejects}
use Rattle.ps_rules.specs.History.{IsHistory}
use Rattle.ps_rules.specs.History.IsHistory.{nothing, block}
use Rattle.ps_rules.specs.Laws.{all_confirmed, IsOnce, says_confirmed}
use Rattle.ps_rules.specs.Legal.{is_confirmed, is_legal, same_flag}
use Rattle.ps_rules.specs.Reading.{only_if, with_last}
use Rattle.ps_rules.specs.Runs.{is_running}
use Rattle.ps_rules.proofs.Kept.{first_offer_wins}
use Rattle.ps_rules.proofs.Pushed.{read-block}
use Rattle.ps_rules.proofs.SameThings.{same_name-decides}
use Rattle.ps_rules.proofs.Speaking.{legal_events_speak}
use Rattle.ps_rules.proofs.InOrder.{number-itself}
use Rattle.ps_progress_laws.proofs.Picking.{count_other}
use Rattle.ps_ledger.specs.Offers.{offered_on, standing, standing_next, without}
use Rattle.ps_ledger.specs.declared.offers.Offer.{Offer}
use Rattle.ps_ledger.proofs.Standing.{on-more}
use Rattle.ps_state.specs.State.{Stands}
use Rattle.ps_state.specs.declared.state.State.{State}
use Rattle.ps_actors.specs.Ticks.{better, first_of, IsEarliest, rejection, rejects_on}
use Rattle.ps_actors.specs.Turns.{first_legal}
use Rattle.ps_actors.proofs.First.{found-at, found-nowhere, passes}

-- ---- an offer more

nothing-more : (t : Bool) (o : Option Event) → (if t then option_or o None else o) ≡ o
nothing-more true None = refl
nothing-more true (Some e) = refl
nothing-more false o = refl

still-first : (t : Bool) (old more : Option Event) (e : Event) → old ≡ Some e → (if t then option_or old more else old) ≡ Some e
still-first true old more e h = ap (λ o. option_or o more) h
still-first false old more e h = h

-- what a function gives where the firsts of one request change
abbrev pub MoreFirsts : (ℕ → Option Event) → (ℕ → Option Event) → Offer → Bool → Type 0
MoreFirsts g h x b = (r : ℕ) → h r ≡ (if r == x.r then option_or (g r) (if b then Some (rejection x) else None) else g r)

earlier : (g h : ℕ → Option Event) (x : Offer) → MoreFirsts g h x true → (r : ℕ) → r < x.r → h r ≡ g r
earlier g h x now r lt = now r ∙ ap (λ t. if t then option_or (g r) (Some (rejection x)) else g r) (count_other r x.r lt)

at-last : (g h : ℕ → Option Event) (x : Offer) → MoreFirsts g h x true → g x.r ≡ None → h x.r ≡ Some (rejection x)
at-last g h x now none = now x.r ∙ ap (λ t. if t then option_or (g x.r) (Some (rejection x)) else g x.r) (number-itself x.r) ∙ ap (λ o. option_or o (Some (rejection x))) none

-- where there is a best one before
more-some : (g h : ℕ → Option Event) (x o : Offer) (t : Bool) → nat_lt x.r o.r ≡ t → IsEarliest g (Some o) → MoreFirsts g h x true → IsEarliest h (if t then Some x else Some o)
more-some g h x o true is was now =
    let less : x.r < o.r = grind (arith, nat_tests, is) in
    (λ r lt. earlier g h x now r lt ∙ was.0 r (omega (arith, lt, less)), at-last g h x now (was.0 x.r less))
more-some g h x o false is was now =
    let more : o.r ≤ x.r = grind (arith, nat_tests, is) in
    (λ r lt. earlier g h x now r (omega (arith, lt, more)) ∙ was.0 r lt, now o.r ∙ still-first (o.r == x.r) (g o.r) (Some (rejection x)) (rejection o) was.1)

-- the earliest of offers and one more, of which it is known whether it may be rejected
pub earliest-more : (g h : ℕ → Option Event) (x : Offer) (b : Bool) (best : Option Offer) → IsEarliest g best → MoreFirsts g h x b → IsEarliest h (better b best x)
earliest-more g h x false None was now = λ r. now r ∙ nothing-more (r == x.r) (g r) ∙ was r
earliest-more g h x false (Some o) was now = (λ r lt. now r ∙ nothing-more (r == x.r) (g r) ∙ was.0 r lt, now o.r ∙ nothing-more (o.r == x.r) (g o.r) ∙ was.1)
earliest-more g h x true None was now = (λ r lt. earlier g h x now r lt ∙ was r, at-last g h x now (was x.r))
earliest-more g h x true (Some o) was now = more-some g h x o (nat_lt x.r o.r) refl was now

-- the firsts of offers and one more
pub first-more : (i : Input) (es : List Entry) (xs : List Offer) (x : Offer) (b : Bool) → b ≡ is_legal i es (rejection x)
    → MoreFirsts (first_of i es xs) (first_of i es (xs ++ x ∷ [])) x b
first-more i es xs x b may r =
    let p : Event → Bool = is_legal i es in
    let ys : List Name = offered_on r xs in
    let cases : (t : Bool) → (r == x.r) ≡ t
    → find p (map (event.Reject r) (if t then ys ++ x.by ∷ [] else ys)) ≡ (if t then option_or (find p (map (event.Reject r) ys)) (if b then Some (rejection x) else None) else find p (map (event.Reject r) ys)) =
    λ t. elim t as (λ t. (r == x.r) ≡ t
    → find p (map (event.Reject r) (if t then ys ++ x.by ∷ [] else ys)) ≡ (if t then option_or (find p (map (event.Reject r) ys)) (if b then Some (rejection x) else None) else find p (map (event.Reject r) ys))) [
      | true ↦ λ is.
          ap (find p) (map-append (event.Reject r) ys (x.by ∷ []))
          ∙ find-append p (map (event.Reject r) ys) (event.Reject r x.by ∷ [])
          ∙ ap (option_or (find p (map (event.Reject r) ys)))
          (ap (λ k. find p (event.Reject k x.by ∷ [])) (eqb-true r x.r is) ∙ ap (λ t. if t then Some (rejection x) else None) (sym may))
      | false ↦ λ is. refl
    ] in
    ap (λ ps. find p (map (event.Reject r) ps)) (sym (on-more r x xs)) ∙ cases (r == x.r) refl

-- ---- offers that stand, and all offers

skip : (p : Event → Bool) (r : ℕ) (n : Name) (ps : List Name) → p (event.Reject r n) ≡ false → find p (map (event.Reject r) (without n ps)) ≡ find p (map (event.Reject r) ps)
skip p r n [] h = refl
skip p r n (m ∷ ps) h =
    let rest : Option Event = find p (map (event.Reject r) ps) in
    let cases : (b : Bool) → same_name m n ≡ b
    → find p (map (event.Reject r) (if not b then m ∷ without n ps else without n ps)) ≡ (if p (event.Reject r m) then Some (event.Reject r m) else rest) =
    λ b. elim b as (λ b. same_name m n ≡ b
    → find p (map (event.Reject r) (if not b then m ∷ without n ps else without n ps)) ≡ (if p (event.Reject r m) then Some (event.Reject r m) else rest)) [
      | true ↦ λ is.
          skip p r n ps h
          ∙ sym (ap (λ t. if t then Some (event.Reject r m) else rest) (ap (λ k. p (event.Reject r k)) ((same_name-decides m n).0 is) ∙ h))
      | false ↦ λ is. ap (λ o. if p (event.Reject r m) then Some (event.Reject r m) else o) (skip p r n ps h)
    ] in
    cases (same_name m n) refl

one-more : (p : Event → Bool) (r : ℕ) (n : Name) (xs ys : List Name) → find p (map (event.Reject r) xs) ≡ find p (map (event.Reject r) ys)
    → find p (map (event.Reject r) (xs ++ n ∷ [])) ≡ find p (map (event.Reject r) (ys ++ n ∷ []))
one-more p r n xs ys e =
    ap (find p) (map-append (event.Reject r) xs (n ∷ [])) ∙ find-append p (map (event.Reject r) xs) (event.Reject r n ∷ [])
    ∙ ap (λ o. option_or o (find p (event.Reject r n ∷ []))) e
    ∙ sym (find-append p (map (event.Reject r) ys) (event.Reject r n ∷ [])) ∙ ap (find p) (sym (map-append (event.Reject r) ys (n ∷ [])))

offer-case : (p : Event → Bool) (r : ℕ) (n : Name) (os ps : List Name) (t : Bool) → find p (map (event.Reject r) os) ≡ find p (map (event.Reject r) ps)
    → find p (map (event.Reject r) (with_last os (only_if t n))) ≡ find p (map (event.Reject r) (if t then ps ++ n ∷ [] else ps))
offer-case p r n os ps true e = one-more p r n os ps e
offer-case p r n os ps false e = e

strike-case : (p : Event → Bool) (r : ℕ) (n : Name) (os ps : List Name) (t : Bool) → find p (map (event.Reject r) os) ≡ find p (map (event.Reject r) ps)
    → (t ≡ true → p (event.Reject r n) ≡ false) → find p (map (event.Reject r) os) ≡ find p (map (event.Reject r) (if t then without n ps else ps))
strike-case p r n os ps true e h = e ∙ sym (skip p r n ps (h refl))
strike-case p r n os ps false e h = e

strikes : (r s : ℕ) (n : Name) → (r == s) ≡ true → ((r == s) && same_name n n) ≡ true
strikes r s n h = ap (λ b. b && same_name n n) h ∙ name_itself n

next-found : (p : Event → Bool) (r : ℕ) (e : Event) (os ps : List Name) → find p (map (event.Reject r) os) ≡ find p (map (event.Reject r) ps)
    → ((n : Name) → is_reject r n e ≡ true → p (event.Reject r n) ≡ false) → ((n : Name) → says_confirmed r e ≡ Some n → p (event.Reject r n) ≡ false)
    → find p (map (event.Reject r) (with_last os (says_offer r e))) ≡ find p (map (event.Reject r) (standing_next r ps e))
next-found p r (event.Offer s n) os ps e rej con = offer-case p r n os ps (r == s) e
next-found p r (event.Reject s n) os ps e rej con = strike-case p r n os ps (r == s) e (λ t. rej n (strikes r s n t))
next-found p r (event.Confirm s n) os ps e rej con = strike-case p r n os ps (r == s) e (λ t. con n (ap (λ b. only_if b n) t))
next-found p r other os ps e rej con = e

last-init : (P : Name → Type 0) (xs : List Name) (o : Option Name) → AllByRecursion P (with_last xs o) → AllByRecursion P xs
last-init P xs None h = h
last-init P [] (Some x) h = tt
last-init P (y ∷ xs) (Some x) h = (h.0, last-init P xs (Some x) h.1)

last-has : (P : Name → Type 0) (xs : List Name) (x : Name) → AllByRecursion P (xs ++ x ∷ []) → P x
last-has P [] x h = h.0
last-has P (y ∷ xs) x h = last-has P xs x h.1

-- of a history's offers the same is found as of those that stand, where nothing is found of who was rejected or confirmed
standing-found : (i : Input) (es : List Entry) → IsHistory i es → (p : Event → Bool) (r : ℕ) → ((n : Name) → is_rejected r n es ≡ true → p (event.Reject r n) ≡ false)
    → AllByRecursion (λ n. p (event.Reject r n) ≡ false) (all_confirmed r es) → find p (map (event.Reject r) (offers r es)) ≡ find p (map (event.Reject r) (standing r es))
standing-found i _ nothing p r rej con = refl
standing-found i _ (block es e before legal hand) p r rej con =
    let rejected = λ (n : Name). read-block (λ found f. found || is_reject r n f) false i es e (λ a act why. or_false a) in
    let both = subst (AllByRecursion (λ n. p (event.Reject r n) ≡ false)) (read-block (λ xs f. with_last xs (says_confirmed r f)) [] i es e (λ a act why. refl)) con in
    let was = standing-found i es before p r (λ n h. rej n (rejected n ∙ or_left (is_rejected r n es) (is_reject r n e.what) h))
    (last-init (λ n. p (event.Reject r n) ≡ false) (all_confirmed r es) (says_confirmed r e.what) both) in
    ap (λ xs. find p (map (event.Reject r) xs)) (read-block (λ xs f. with_last xs (says_offer r f)) [] i es e (λ a act why. refl))
    ∙ next-found p r e.what (offers r es) (standing r es) was
    (λ n h. rej n (rejected n ∙ or_right (is_rejected r n es) (is_reject r n e.what) h))
    (λ n h. last-has (λ m. p (event.Reject r m) ≡ false) (all_confirmed r es) n
    (subst (λ o. AllByRecursion (λ m. p (event.Reject r m) ≡ false) (with_last (all_confirmed r es) o)) h both))
    ∙ ap (λ xs. find p (map (event.Reject r) xs)) (sym (read-block (standing_next r) [] i es e (λ a act why. refl)))

third-false : (a b x y : Bool) → x ≡ true → (a && (b && (not x && y))) ≡ false
third-false true true x y h = ap (λ t. not t && y) h
third-false true false x y h = refl
third-false false b x y h = refl

fourth-false : (a b x y z : Bool) → y ≡ true → (a && (b && (x && (not y && z)))) ≡ false
fourth-false true true true y z h = ap (λ t. not t && z) h
fourth-false true true false y z h = refl
fourth-false true false x y z h = refl
fourth-false false b x y z h = refl

-- who was rejected or is confirmed isn't rejected
not-twice : (i : Input) (es : List Entry) (r : ℕ) (n : Name) → is_rejected r n es ≡ true → is_legal i es (event.Reject r n) ≡ false
not-twice i es r n h = third-false (same_flag false (not (is_running es))) (has_offered r n es) (is_rejected r n es) (not (is_confirmed r n es) && (is_some (confirmed r es) || is_for_cancelled r es)) h

not-chosen : (i : Input) (es : List Entry) (r : ℕ) (n : Name) → confirmed r es ≡ Some n → is_legal i es (event.Reject r n) ≡ false
not-chosen i es r n h =
    fourth-false (same_flag false (not (is_running es))) (has_offered r n es) (not (is_rejected r n es)) (is_confirmed r n es) (is_some (confirmed r es) || is_for_cancelled r es)
    (ap (λ o. option_map_or (same_name n) o false) h ∙ name_itself n)

all-once : (P : Name → Type 0) (cs os : List Name) (now : Option Name) → IsOnce cs now os → ((n : Name) → now ≡ Some n → P n) → AllByRecursion P cs
all-once P [] os now once h = tt
all-once P (n ∷ []) os now once h = (h n once.0, tt)
all-once P (n ∷ m ∷ ns) os now once h = absurd once

-- the first rejection of an offer on a request is that of one that stands
rejects-as : (i : Input) (es : List Entry) (p : State) → IsHistory i es → Stands i es p → (r : ℕ) → first_legal i es (rejects_on es r) ≡ first_of i es p.ledger.offers.all.items r
rejects-as i es p history kept r =
    standing-found i es history (is_legal i es) r (λ n h. not-twice i es r n h)
    (all-once (λ n. is_legal i es (event.Reject r n) ≡ false) (all_confirmed r es) (offers r es) (confirmed r es) (first_offer_wins i es history r) (λ n h. not-chosen i es r n h))
    ∙ ap (λ ps. first_legal i es (map (event.Reject r) ps)) (kept.told.offers.offers r)

pub reject-some : (i : Input) (es : List Entry) (p : State) (o : Offer) → IsHistory i es → Stands i es p → IsEarliest (first_of i es p.ledger.offers.all.items) (Some o) → Some (rejection o) ≡ first_legal i es (rejects es)
reject-some i es p o history kept is =
    let legal : IsTrue (is_legal i es (rejection o)) = passes (is_legal i es) (map (event.Reject o.r) (offered_on o.r p.ledger.offers.all.items)) (rejection o) (sym is.1) in
    let speaks : nat_lt o.r (requests es) ≡ true = legal_events_speak i es (rejection o) history legal in
    let within : o.r < requests es = grind (arith, nat_tests, speaks) in
    sym (found-at (is_legal i es) (rejects_on es) 0 (requests es) o.r (rejection o) (λ k lt. rejects-as i es p history kept k ∙ is.0 k lt) (omega arith) (omega (arith, within)) (rejects-as i es p history kept o.r ∙ is.1))

pub reject-none : (i : Input) (es : List Entry) (p : State) → IsHistory i es → Stands i es p → IsEarliest (first_of i es p.ledger.offers.all.items) None → None ≡ first_legal i es (rejects es)
reject-none i es p history kept is =
    sym (found-nowhere (is_legal i es) (rejects_on es) 0 (requests es) (λ k lt. rejects-as i es p history kept k ∙ is k))
