-- As many units are recorded as the sum over all requests and performers comes to.
use Rattle.std.proofs.Common.{◌≡◌, ◌≢◌, ◌⊎◌, ℕ, zero, suc, ◌+◌, ◌<◌, ◌≤◌, ◌==◌, ◌&&◌, ◌||◌, Bool, true, false, List, [], ◌∷◌, ◌++◌, length, slice_index_or, refl, ap, sym, ◌∙◌, subst, ⊎_elim, arith}
use Rattle.std.specs.Prelude.{if◌then◌else◌, nat_lt, filter_map, Option, Some, None}
use Rattle.std.specs.List.{AllPairs, list_any, range_with_len, sum_by}
use Rattle.std.specs.Option.{option_map_or}
use Rattle.std.proofs.lemmas.Bool.Decides.{eqb_tells, Decides-ltb}
use Rattle.std.proofs.lemmas.List.Sums.{sum_by-cons}
use Rattle.std.proofs.lemmas.Bool.{false_from_ne_true}
use Rattle.ps_world.specs.Names.{same_name}
use Rattle.ps_world.specs.declared.names.Name.{Name}
use Rattle.ps_world.proofs.SameTexts.{name_itself}
use Rattle.ps_action.proofs.Facts.{same_name-is}
use Rattle.ps_machine.specs.declared.inputs.Input.{Input}
use Rattle.ps_machine.specs.declared.members.Member.{Member}
use Rattle.ps_machine.specs.declared.members.Member.TheVariants as member
use Rattle.ps_machine.specs.declared.members.Performer.{Performer}
use Rattle.ps_machine.specs.declared.journal.By.TheVariants as by
use Rattle.ps_machine.specs.declared.journal.Event.{Event}
use Rattle.ps_machine.specs.declared.journal.Event.TheVariants as event
use Rattle.ps_machine.specs.declared.journal.Entry.{Entry}
use Rattle.ps_rules.specs.Auctions.{is_request, is_unit, requests}
use Rattle.ps_rules.specs.History.{forced, IsHistory}
use Rattle.ps_rules.specs.History.IsHistory.{nothing, block}
use Rattle.ps_rules.specs.Laws.{speaks_of}
use Rattle.ps_rules.specs.Members.{as_performer, performers}
use Rattle.ps_rules.specs.Sound.{IsSound, member_name}
use Rattle.ps_rules.proofs.Pushed.{read-block}
use Rattle.ps_rules.proofs.Speaking.{legal_events_speak, fewer}
use Rattle.ps_reports.specs.Audit.{all_recorded, is_performer, is_recorded}
use Rattle.ps_reports.specs.Laws.{AllAreSummed, recorded_of, sum_recorded}
use Rattle.ps_reports.specs.Stints.{recorded, unit_by}

-- ---- sums

zeros : {X : Type 0} (f : X → ℕ) (xs : List X) → ((x : X) → f x ≡ 0) → sum_by f xs ≡ 0
zeros f [] h = refl
zeros f (x ∷ xs) h = let c = sum_by-cons f x xs in let here = h x in let rest = zeros f xs h in omega arith

-- the sum of sums
sums : {X : Type 0} (f g k : X → ℕ) (xs : List X) → ((x : X) → k x ≡ f x + g x) → sum_by k xs ≡ sum_by f xs + sum_by g xs
sums f g k [] h = refl
sums f g k (x ∷ xs) h =
    let a = sum_by-cons f x xs in
    let b = sum_by-cons g x xs in
    let c = sum_by-cons k x xs in
    let here = h x in
    let rest = sums f g k xs h in
    omega arith

abbrev one : Bool → ℕ
one b = if b then 1 else 0

rise : (b : Bool) (n : ℕ) → (if b then n + 1 else n) ≡ n + one b
rise true n = refl
rise false n = omega arith

-- ---- one event, over requests

misses : (a n s : ℕ) (b : Bool) → s < a → sum_by (λ r. one ((r == s) && b)) (range_with_len a n) ≡ 0
misses a zero s b less = refl
misses a (suc n) s b less =
    ⊎_elim
    (λ (t : ((a == s) ≡ true) × (a ≡ s)). let same = t.1 in absurd (omega arith))
    (λ (t : ((a == s) ≡ false) × (a ≢ s)).
    let here : one ((a == s) && b) ≡ 0 = ap (λ y. one (y && b)) t.0 in
    let rest = misses (a + 1) n s b (omega arith) in
    let c = sum_by-cons (λ r. one ((r == s) && b)) a (range_with_len (a + 1) n) in
    omega arith)
    (eqb_tells a s)

hits : (a n s : ℕ) (b : Bool) → a ≤ s → s < a + n → sum_by (λ r. one ((r == s) && b)) (range_with_len a n) ≡ one b
hits a zero s b le less = absurd (omega arith)
hits a (suc n) s b le less =
    let c = sum_by-cons (λ r. one ((r == s) && b)) a (range_with_len (a + 1) n) in
    ⊎_elim
    (λ (t : ((a == s) ≡ true) × (a ≡ s)).
    let same = t.1 in
    let here : one ((a == s) && b) ≡ one b = ap (λ y. one (y && b)) t.0 in
    let rest = misses (a + 1) n s b (omega arith) in
    omega arith)
    (λ (t : ((a == s) ≡ false) × (a ≢ s)).
    let other = t.1 in
    let here : one ((a == s) && b) ≡ 0 = ap (λ y. one (y && b)) t.0 in
    let rest = hits (a + 1) n s b (omega arith) (omega arith) in
    omega arith)
    (eqb_tells a s)

-- ---- one event, over performers

abbrev NamesDiffer : List Member → Type 0
NamesDiffer ms = AllPairs (λ m n. same_name (member_name m) (member_name n) ≡ false) ms

none-else : (p q : Name) (ms : List Member) → p ≡ q → ((k : ℕ) (d : Member) → k < length ms → same_name p (member_name (slice_index_or ms k d)) ≡ false) → list_any (is_performer q) ms ≡ false
none-else p q [] same apart = refl
none-else p q (member.Performer m ∷ ms) same apart =
    let other : same_name p m.name ≡ false = apart 0 (member.Performer m) (omega arith) in
    let here : same_name m.name q ≡ false =
    false_from_ne_true (same_name m.name q) (λ is. true-is-false (sym (name_itself p) ∙ ap (same_name p) (same ∙ sym (same_name-is m.name q is)) ∙ other)) in
    ap (λ b. b || list_any (is_performer q) ms) here ∙ none-else p q ms same (λ k d less. apart (suc k) d (omega arith))
  where
    true-is-false : true ≡ false → ⊥
    true-is-false e = absurd (cc)
none-else p q (member.Observer o ∷ ms) same apart = none-else p q ms same (λ k d less. apart (suc k) d (omega arith))

over-performers : (q : Name) (ms : List Member) → NamesDiffer ms → sum_by (λ p. one (same_name p.name q)) (filter_map as_performer ms) ≡ one (list_any (is_performer q) ms)
over-performers q [] differ = refl
over-performers q (member.Observer o ∷ ms) differ = over-performers q ms (λ i j d less there. differ (suc i) (suc j) d (omega arith) (omega arith))
over-performers q (member.Performer p ∷ ms) differ =
    let c = sum_by-cons (λ (p : Performer). one (same_name p.name q)) p (filter_map as_performer ms) in
    let rest = over-performers q ms (λ i j d less there. differ (suc i) (suc j) d (omega arith) (omega arith)) in
    c ∙ ap (λ n. one (same_name p.name q) + n) rest ∙ joined (same_name p.name q) (list_any (is_performer q) ms)
    (λ is. none-else p.name q ms (same_name-is p.name q is) (λ k d less. differ 0 (suc k) d (omega arith) (omega arith)))
  where
    joined : (a b : Bool) → (a ≡ true → b ≡ false) → one a + one b ≡ one (a || b)
    joined true b deny = ap (λ y. 1 + one y) (deny refl)
    joined false b deny = omega arith

-- ---- one event

abbrev of-unit : ℕ → Name → Option (ℕ × Name) → Bool
of-unit r p o = option_map_or (λ u. (r == u.0) && same_name p u.1) o false

unit-is : (r : ℕ) (p : Name) (e : Event) → is_unit r p e ≡ of-unit r p (unit_by e)
unit-is r p (event.Edit (by.Performer s q) edit) = refl
unit-is r p (event.Refused (by.Performer s q) why) = refl
unit-is r p (event.UnitWork s q) = refl
unit-is r p (event.Feedback s q percent text) = refl
unit-is r p (event.Finish s q ok) = refl
unit-is r p e = refl

abbrev request-in : Option (ℕ × Name) → ℕ
request-in None = 0
request-in (Some u) = u.0

-- the request of a unit is below the count of requests
unit-below : (n : ℕ) (e : Event) (r : ℕ) (p : Name) → speaks_of n e ≡ true → unit_by e ≡ Some (r, p) → nat_lt r n ≡ true
unit-below n (event.Edit (by.Performer s q) edit) r p speaks is = subst (λ k. nat_lt k n ≡ true) (ap request-in is) speaks
unit-below n (event.Refused (by.Performer s q) why) r p speaks is = subst (λ k. nat_lt k n ≡ true) (ap request-in is) speaks
unit-below n (event.UnitWork s q) r p speaks is = subst (λ k. nat_lt k n ≡ true) (ap request-in is) speaks
unit-below n (event.Feedback s q percent text) r p speaks is = subst (λ k. nat_lt k n ≡ true) (ap request-in is) speaks
unit-below n (event.Finish s q ok) r p speaks is = subst (λ k. nat_lt k n ≡ true) (ap request-in is) speaks
unit-below n e r p speaks is = absurd (cc)

over-all : (n : ℕ) (ms : List Member) (o : Option (ℕ × Name)) → NamesDiffer ms → ((r : ℕ) (p : Name) → o ≡ Some (r, p) → r < n)
    → sum_by (λ p. sum_by (λ r. one (of-unit r p.name o)) (range_with_len 0 n)) (filter_map as_performer ms)
    ≡ one (option_map_or (λ u. list_any (is_performer u.1) ms) o false)
over-all n ms None differ below = zeros (λ (p : Performer). sum_by (λ r. one (of-unit r p.name None)) (range_with_len 0 n)) (filter_map as_performer ms) (λ p. zeros (λ r. 0) (range_with_len 0 n) (λ r. refl))
over-all n ms (Some u) differ below =
    let less : u.0 < n = below u.0 u.1 refl in
    (λ i. sum_by (λ (p : Performer). hits 0 n u.0 (same_name p.name u.1) (omega arith) (omega arith) i) (filter_map as_performer ms))
    ∙ over-performers u.1 ms differ

event-sum : (n : ℕ) (i : Input) (e : Event) → NamesDiffer i.members → ((r : ℕ) (p : Name) → unit_by e ≡ Some (r, p) → r < n)
    → sum_by (λ p. sum_by (λ r. one (is_unit r p.name e)) (range_with_len 0 n)) (performers i) ≡ one (is_recorded i e)
event-sum n i e differ below =
    (λ j. sum_by (λ (p : Performer). sum_by (λ r. one (unit-is r p.name e j)) (range_with_len 0 n)) (performers i))
    ∙ over-all n i.members (unit_by e) differ below

-- ---- a history

summed : (i : Input) (es : List Entry) → NamesDiffer i.members → IsHistory i es → (n : ℕ) → requests es ≤ n → all_recorded i es ≡ sum_recorded i es n
summed i _ differ nothing n le = sym (zeros (λ (p : Performer). recorded_of [] n p.name) (performers i) (λ p. zeros (λ r. recorded [] r p.name) (range_with_len 0 n) (λ r. refl)))
summed i _ differ (block es e h legal hand) n le =
    let all = es ++ e ∷ forced i es e in
    let asked : requests all ≡ (if is_request e.what then requests es + 1 else requests es) = read-block (λ k f. if is_request f then k + 1 else k) 0 i es e (λ a act why. refl) in
    let enough : requests es ≤ n = fewer (is_request e.what) (requests es) n (subst (λ k. k ≤ n) asked le) in
    let old : all_recorded i es ≡ sum_recorded i es n = summed i es differ h n enough in
    let below : (r : ℕ) (p : Name) → unit_by e.what ≡ Some (r, p) → r < n = λ r p is.
    let less : r < requests es = (Decides-ltb r (requests es)).0 (unit-below (requests es) e.what r p (legal_events_speak i es e.what h legal) is) in omega arith in
    let more : all_recorded i all ≡ all_recorded i es + one (is_recorded i e.what) = read-block (λ k f. if is_recorded i f then k + 1 else k) 0 i es e (λ a act why. refl) ∙ rise (is_recorded i e.what) (all_recorded i es) in
    let each : (p : Performer) → recorded_of all n p.name ≡ recorded_of es n p.name + sum_by (λ r. one (is_unit r p.name e.what)) (range_with_len 0 n) = λ p.
    sums (λ r. recorded es r p.name) (λ r. one (is_unit r p.name e.what)) (λ r. recorded all r p.name) (range_with_len 0 n)
    (λ r. read-block (λ k f. if is_unit r p.name f then k + 1 else k) 0 i es e (λ a act why. refl) ∙ rise (is_unit r p.name e.what) (recorded es r p.name)) in
    let both : sum_recorded i all n ≡ sum_recorded i es n + sum_by (λ p. sum_by (λ r. one (is_unit r p.name e.what)) (range_with_len 0 n)) (performers i) =
    sums (λ (p : Performer). recorded_of es n p.name) (λ (p : Performer). sum_by (λ r. one (is_unit r p.name e.what)) (range_with_len 0 n)) (λ (p : Performer). recorded_of all n p.name) (performers i) each in
    let here = event-sum n i e.what differ below in
    more ∙ ap (λ k. k + one (is_recorded i e.what)) old ∙ ap (λ k. sum_recorded i es n + k) (sym here) ∙ sym both

pub all_are_summed : AllAreSummed
all_are_summed i h sound history = summed i h sound.names_differ history (requests h) (omega arith)
