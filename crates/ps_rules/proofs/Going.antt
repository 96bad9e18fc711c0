-- Active acts may go on, and each entry is legal where it stands.
use Rattle.std.proofs.Common.{◌≡◌, ℕ, zero, suc, ◌+◌, ◌<◌, ◌≤◌, ◌==◌, ◌&&◌, ◌||◌, Bool, true, false, not, List, [], ◌∷◌, ◌++◌, IsTrue, if◌then◌else◌, map, length, refl, arith, ap, sym, ◌∙◌, append_assoc, append-nil, subst, nat_lt}
use Rattle.std.specs.List.{list_any, range_with_len}
use Rattle.std.specs.Option.{unwrap_or}
use Rattle.std.proofs.lemmas.Bool.{eqb-true, ltb-true, true≢false, not-false, and_parts}
use Rattle.std.proofs.lemmas.Bool.Decides.{nat_tests}
use Rattle.std.proofs.lemmas.Grind.{fold-append}
use Rattle.std.proofs.lemmas.Map.Views.{any-filter_same}
use Rattle.std.proofs.Math.Bool.{and-true}
use Rattle.ps_machine.specs.declared.inputs.Input.{Input}
use Rattle.ps_action.specs.declared.states.ActState.{ActState}
use Rattle.ps_action.specs.declared.states.ActState.TheVariants.{Waiting, Active, Done, Failed, Cancelled}
use Rattle.ps_machine.specs.declared.journal.CancelWhy.{CancelWhy}
use Rattle.ps_machine.specs.declared.journal.CancelWhy.TheVariants as cancel
use Rattle.ps_machine.specs.declared.journal.Event.{Event}
use Rattle.ps_machine.specs.declared.journal.Event.TheVariants as event
use Rattle.ps_machine.specs.declared.journal.Entry.{Entry}
use Rattle.ps_rules.specs.Reading.{latest, only_if}
use Rattle.ps_rules.specs.Runs.{is_active, plan, says_plan, says_state, state}
use Rattle.ps_rules.specs.Known.{both_after, know}
use Rattle.ps_rules.specs.Settled.{places, is_ready, is_startable, any_harmed, may_go_on, may_start, starts_well}
use Rattle.ps_rules.specs.Legal.{is_legal, is_place, row_allows}
use Rattle.ps_rules.specs.Laws.{ActiveActsMayGoOn, EachIsLegal, EntriesAreLegal, is_cancel, StartsAreSound}
use Rattle.ps_rules.specs.History.{any_of, broken, cancels, forced, forced_after, is_fail, IsHistory, unbroken}
use Rattle.ps_rules.specs.History.IsHistory.{nothing, block}
use Rattle.ps_rules.proofs.Pushed.{read-block, read-forced, read-push}
use Rattle.ps_rules.proofs.Kept.{fits-legal}

-- ---- cancels of acts

-- whether an act is among these
abbrev among : ℕ → List ℕ → Bool
among act acts = list_any (λ b. act == b) acts

waiting_cancelled : Cancelled ≡ Active → ⊥
waiting_cancelled e = true≢false (sym (ap is_active e))

-- an act that is active after cancels was active before, and is none of theirs
still-active : (act hand : ℕ) (why : CancelWhy) (acts : List ℕ) (s : ActState) → latest (says_state act) s (map (cancels hand why) acts) ≡ Active → (s ≡ Active) × (among act acts ≡ false)
still-active act hand why [] s h = (h, refl)
still-active act hand why (b ∷ more) s h =
    let cases : (t : Bool) → latest (says_state act) (unwrap_or (only_if t Cancelled) s) (map (cancels hand why) more) ≡ Active → (s ≡ Active) × ((t || among act more) ≡ false) =
    λ t. elim t as (λ t. latest (says_state act) (unwrap_or (only_if t Cancelled) s) (map (cancels hand why) more) ≡ Active → (s ≡ Active) × ((t || among act more) ≡ false)) [
      | true ↦ λ g. absurd (waiting_cancelled (still-active act hand why more Cancelled g).0)
      | false ↦ λ g. still-active act hand why more s g
    ] in
    cases (act == b) h

still-stops : (act hand : ℕ) (b : Bool) (acts : List ℕ) (s : ActState) → latest (says_state act) s (if b then map (cancels hand cancel.Stop) acts else []) ≡ Active → s ≡ Active
still-stops act hand true acts s h = (still-active act hand cancel.Stop acts s h).0
still-stops act hand false acts s h = h

-- an act that is active after the cancels that an event forces was active before, and isn't broken
still-forced : (i : Input) (act hand : ℕ) (es : List Entry) (e : Event) (s : ActState) → latest (says_state act) s (forced_after i es hand e) ≡ Active → (s ≡ Active) × (among act (broken i es) ≡ false)
still-forced i act hand es e s h =
    let b : Bool = is_fail e || any_of (broken i es) in
    let stops : List Entry = if b then map (cancels hand cancel.Stop) (unbroken i es) else [] in
    let split = fold-append (λ a f. unwrap_or (says_state act f.what) a) s (map (cancels hand cancel.OverAll) (broken i es)) stops in
    still-active act hand cancel.OverAll (broken i es) s (still-stops act hand b (unbroken i es) (latest (says_state act) s (map (cancels hand cancel.OverAll) (broken i es))) (sym split ∙ h))

-- ---- broken acts

among-range : (act start n : ℕ) → start ≤ act → act < start + n → among act (range_with_len start n) ≡ true
among-range act start zero low high = absurd (omega (arith, low, high))
among-range act start (suc n) low high = first_of (grind (arith, nat_tests, among-range act (start + 1) n), search (arith, nat_tests, among-range act (start + 1) n))

-- an active act of the plan that isn't broken may go on
not-broken : (i : Input) (act : ℕ) (es : List Entry) → state act es ≡ Active → among act (places es) ≡ true → among act (broken i es) ≡ false → may_go_on i es act ≡ true
not-broken i act es active within out =
    let test : ℕ → Bool = λ b. is_active (state b es) && not (may_go_on i es b) in
    let told : among act (broken i es) ≡ (test act && among act (places es)) =
    any-filter_same (λ b. act == b) test (test act) (λ b same. ap test (sym (eqb-true act b same))) (places es) in
    let failed : (not (may_go_on i es act)) ≡ false =
    sym (ap (λ t. is_active t && not (may_go_on i es act)) active) ∙ sym (ap (λ t. test act && t) within ∙ and-true (test act)) ∙ sym told ∙ out in
    not-false (may_go_on i es act) failed

-- ---- every active act is one of the plan

abbrev pub IsPlaced : ℕ → List Entry → Type 0
IsPlaced act es = state act es ≡ Active → is_place es act ≡ true

started : (t p : Bool) (s : ActState) → (s ≡ Active → p ≡ true) → (t ≡ true → p ≡ true) → unwrap_or (only_if t Active) s ≡ Active → p ≡ true
started true p s old now h = now refl
started false p s old now h = old h

other : (t : Bool) (p : Bool) (s end : ActState) → (end ≡ Active → ⊥) → (s ≡ Active → p ≡ true) → unwrap_or (only_if t end) s ≡ Active → p ≡ true
other true p s end none old h = absurd (none h)
other false p s end none old h = old h

pub not_active : (s : ActState) → is_active s ≡ false → s ≡ Active → ⊥
not_active s h e = true≢false (sym (ap is_active e) ∙ h)

placed-step : (i : Input) (act : ℕ) (es : List Entry) (e : Event) → IsPlaced act es → row_allows i es e ≡ true
    → unwrap_or (says_state act e) (state act es) ≡ Active → nat_lt act (length (unwrap_or (says_plan e) (plan es))) ≡ true
placed-step i act es (event.Run for new) h f now = absurd (not_active Waiting refl now)
placed-step i act es (event.Replan new) h f now = absurd (not_active Waiting refl now)
placed-step i act es (event.Start j) h f now =
    started (act == j) (is_place es act) (state act es) h
    (λ same. ap (λ t. is_place es t) (eqb-true act j same) ∙ (and_parts (is_place es j) (is_ready i es j && (is_startable i es j && not (any_harmed es))) f).0) now
placed-step i act es (event.End j) h f now = other (act == j) (is_place es act) (state act es) Done (not_active Done refl) h now
placed-step i act es (event.Fail j why) h f now = other (act == j) (is_place es act) (state act es) Failed (not_active Failed refl) h now
placed-step i act es (event.Cancel j why) h f now = other (act == j) (is_place es act) (state act es) Cancelled (not_active Cancelled refl) h now
placed-step i act es e h f now = h now

-- ---- a block

-- the block is the event's entry, and then the cancels
pub apart : (i : Input) (es : List Entry) (e : Entry) → (es ++ e ∷ []) ++ forced i es e ≡ es ++ e ∷ forced i es e
apart i es e = append_assoc es (e ∷ []) (forced i es e)

-- an act that is active after a block was so after its event, and isn't broken there
pub still-block : (i : Input) (act : ℕ) (es : List Entry) (e : Entry) → state act (es ++ e ∷ forced i es e) ≡ Active
    → (state act (es ++ e ∷ []) ≡ Active) × (among act (broken i (es ++ e ∷ [])) ≡ false)
still-block i act es e h =
    still-forced i act e.hand (es ++ e ∷ []) e.what (state act (es ++ e ∷ []))
    (sym (fold-append (λ a f. unwrap_or (says_state act f.what) a) Waiting (es ++ e ∷ []) (forced i es e)) ∙ ap (state act) (apart i es e) ∙ h)

pub placed : (i : Input) (es : List Entry) → IsHistory i es → (act : ℕ) → IsPlaced act es
placed i _ nothing act h = absurd (not_active Waiting refl h)
placed i _ (block es e h legal hand) act now =
    let before = (still-block i act es e now).0 in
    let step = placed-step i act es e.what (placed i es h act) (fits-legal i es e.what legal)
    (sym (read-push (λ s f. unwrap_or (says_state act f) s) Waiting es e) ∙ before) in
    ap (λ acts. nat_lt act (length acts)) (read-block (λ a f. unwrap_or (says_plan f) a) [] i es e (λ a b why. refl)) ∙ step

-- what the cancels of a block leave
know-after : (i : Input) (es : List Entry) (hand : ℕ) (e : Event) → know i (es ++ forced_after i es hand e) ≡ know i es
know-after i es hand e =
    ap (λ now. now.1) (fold-append (λ x f. both_after i.domain x f.what) _ es (forced_after i es hand e) ∙ read-forced (both_after i.domain) (λ a b why. refl) _ i es hand e)

plan-after : (i : Input) (es : List Entry) (hand : ℕ) (e : Event) → plan (es ++ forced_after i es hand e) ≡ plan es
plan-after i es hand e =
    fold-append (λ x f. unwrap_or (says_plan f.what) x) [] es (forced_after i es hand e) ∙ read-forced (λ a f. unwrap_or (says_plan f) a) (λ a b why. refl) (plan es) i es hand e

pub active_acts_may_go_on : ActiveActsMayGoOn
active_acts_may_go_on i _ nothing act h = absurd (not_active Waiting refl h)
active_acts_may_go_on i _ (block es e h legal hand) act now =
    let after : List Entry = es ++ e ∷ [] in
    let was = still-block i act es e now in
    let place = placed-step i act es e.what (placed i es h act) (fits-legal i es e.what legal)
    (sym (read-push (λ s f. unwrap_or (says_state act f) s) Waiting es e) ∙ was.0) in
    let within : act < length (plan after) =
    ltb-true act (length (plan after)) (ap (λ acts. nat_lt act (length acts)) (read-push (λ a f. unwrap_or (says_plan f) a) [] es e) ∙ place) in
    let fine = not-broken i act after was.0 (among-range act 0 (length (plan after)) (omega arith) (omega (arith, within))) was.1 in
    let same : may_go_on i (after ++ forced i es e) act ≡ may_go_on i after act =
    rw (know-after i after e.hand e.what, plan-after i after e.hand e.what) refl in
    ap (λ fs. may_go_on i fs act) (sym (apart i es e)) ∙ same ∙ fine

-- ---- entries are legal where they stand

joined : (i : Input) (before es fs : List Entry) → EachIsLegal i before es → EachIsLegal i (before ++ es) fs → EachIsLegal i before (es ++ fs)
joined i before [] fs h g = subst (λ t. EachIsLegal i t fs) (append-nil before) g
joined i before (e ∷ es) fs h g =
    (h.0, joined i (before ++ e ∷ []) es fs h.1 (subst (λ t. EachIsLegal i t fs) (sym (append_assoc before (e ∷ []) es)) g))

cancels-stand : (i : Input) (before : List Entry) (hand : ℕ) (why : CancelWhy) (acts : List ℕ) → EachIsLegal i before (map (cancels hand why) acts)
cancels-stand i before hand why [] = tt
cancels-stand i before hand why (act ∷ more) = (λ h. absurd (true≢false h), cancels-stand i (before ++ cancels hand why act ∷ []) hand why more)

stops-stand : (i : Input) (before : List Entry) (hand : ℕ) (b : Bool) (acts : List ℕ) → EachIsLegal i before (if b then map (cancels hand cancel.Stop) acts else [])
stops-stand i before hand true acts = cancels-stand i before hand cancel.Stop acts
stops-stand i before hand false acts = tt

forced-stand : (i : Input) (before es : List Entry) (hand : ℕ) (e : Event) → EachIsLegal i before (forced_after i es hand e)
forced-stand i before es hand e =
    let b : Bool = is_fail e || any_of (broken i es) in
    joined i before (map (cancels hand cancel.OverAll) (broken i es)) (if b then map (cancels hand cancel.Stop) (unbroken i es) else [])
    (cancels-stand i before hand cancel.OverAll (broken i es))
    (stops-stand i (before ++ map (cancels hand cancel.OverAll) (broken i es)) hand b (unbroken i es))

pub entries_are_legal : EntriesAreLegal
entries_are_legal i _ nothing = tt
entries_are_legal i _ (block es e h legal hand) =
    joined i [] es (e ∷ forced i es e) (entries_are_legal i es h)
    (λ _. legal, forced-stand i (es ++ e ∷ []) (es ++ e ∷ []) e.hand e.what)

pub starts_are_sound : StartsAreSound
starts_are_sound i es act h =
    let f = and_parts (is_place es act) (is_ready i es act && (is_startable i es act && not (any_harmed es))) (fits-legal i es (event.Start act) h) in
    let g = and_parts (is_ready i es act) (is_startable i es act && not (any_harmed es)) f.1 in
    and_parts (may_start i es act) (starts_well i es act) (and_parts (is_startable i es act) (not (any_harmed es)) g.1).0

-- what every entry keeps, a cancel or a legal one, histories keep
go-on : (i : Input) (P : List Entry → Type 0)
    → ((es : List Entry) (e : Entry) → P es → (is_cancel e.what ≡ false → IsTrue (is_legal i es e.what)) → P (es ++ e ∷ []))
    → (before es : List Entry) → P before → EachIsLegal i before es → P (before ++ es)
go-on i P step before [] h l = subst P (sym (append-nil before)) h
go-on i P step before (e ∷ es) h l = subst P (append_assoc before (e ∷ []) es) (go-on i P step (before ++ e ∷ []) es (step before e h l.0) l.1)

pub by-entry : (i : Input) (P : List Entry → Type 0) → P []
    → ((es : List Entry) (e : Entry) → P es → (is_cancel e.what ≡ false → IsTrue (is_legal i es e.what)) → P (es ++ e ∷ []))
    → (es : List Entry) → IsHistory i es → P es
by-entry i P none step es h = go-on i P step [] es none (entries_are_legal i es h)
