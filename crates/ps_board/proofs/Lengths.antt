-- How long a block is.
use Rattle.std.proofs.Common.{◌≡◌, ℕ, zero, suc, ◌+◌, ◌<◌, ◌≤◌, ◌==◌, nat_lt, ◌&&◌, ◌||◌, not, Bool, true, false, cond, if◌then◌else◌, List, [], ◌∷◌, ◌++◌, count_by, filter, length, slice_index_or, refl, ap, arith, eq-eqb, subst, sym, length-append, ◌∙◌}
use Rattle.std.proofs.lemmas.Bool.{eqb-true, true≢false, ne_eqb, and_parts}
use Rattle.std.proofs.lemmas.Bool.Decides.{nat_tests}
use Rattle.std.proofs.lemmas.List.Sums.{sum_by-cons}
use Rattle.std.specs.List.{range_with_len}
use Rattle.std.specs.Option.{unwrap_or}
use Rattle.ps_action.specs.declared.states.ActState.{ActState}
use Rattle.ps_action.specs.declared.states.ActState.TheVariants.{Failed, Waiting}
use Rattle.ps_machine.specs.declared.inputs.Input.{Input}
use Rattle.ps_machine.specs.declared.journal.FailWhy.{FailWhy}
use Rattle.ps_machine.specs.declared.journal.Event.{Event}
use Rattle.ps_machine.specs.declared.journal.Event.TheVariants as event
use Rattle.ps_machine.specs.declared.journal.Entry.{Entry}
use Rattle.ps_rules.specs.Reading.{only_if}
use Rattle.ps_rules.specs.Runs.{is_active, is_running, plan, says_plan, says_state, state}
use Rattle.ps_rules.specs.Lines.{answers_line}
use Rattle.ps_rules.specs.Settled.{may_go_on}
use Rattle.ps_rules.specs.Legal.{is_act_active, is_legal, row_allows, same_flag}
use Rattle.ps_rules.specs.History.{any_of, broken as broken_after, IsHistory, is_fail, unbroken}
use Rattle.ps_rules.specs.Choices.{with_block}
use Rattle.ps_rules.proofs.Pushed.{read-push}
use Rattle.ps_rules.proofs.Failing.{fail_active}
use Rattle.ps_ledger.specs.Acts.{TellsActs}
use Rattle.ps_ledger.specs.declared.acts.Acts.{Acts}
use Rattle.ps_ledger.specs.declared.ledger.Ledger.{Ledger}
use Rattle.ps_ledger.proofs.Speaking.{acts-there}
use Rattle.ps_monitor.proofs.Lists.{filter-same}
use Rattle.ps_state.specs.Taking.{leaves_known}
use Rattle.ps_board.specs.Parts.{is_quiet, makes_plan, most_entries, takes_only_room}
use Rattle.ps_board.proofs.Forced.{block-long, broken-fit}
use Rattle.ps_board.proofs.Quiet.{quiet-block}

more-by : (b c : Bool) (k m n : ℕ) (xs ys : List ℕ) → (b ≡ true → c ≡ false) → length xs + length ys ≤ n → length (if b then k ∷ xs else xs) + length (if c then m ∷ ys else ys) ≤ suc n
more-by true true k m n xs ys h le = absurd (true≢false (h refl))
more-by true false k m n xs ys h le = omega (arith, le)
more-by false true k m n xs ys h le = omega (arith, le)
more-by false false k m n xs ys h le = omega (arith, le)

-- of tests that exclude one another no more numbers pass than there are
two-fit : (p q : ℕ → Bool) (a n : ℕ) → ((k : ℕ) → p k ≡ true → q k ≡ false) → length (filter p (range_with_len a n)) + length (filter q (range_with_len a n)) ≤ n
two-fit p q a zero h = omega arith
two-fit p q a (suc n) h = more-by (p a) (q a) a a n (filter p (range_with_len (a + 1) n)) (filter q (range_with_len (a + 1) n)) (h a) (two-fit p q (a + 1) n h)

exclude : (b c : Bool) → (b && not c) ≡ true → (b && c) ≡ false
exclude true true h = absurd (cc)
exclude true false h = refl
exclude false c h = refl

if-fits : (b : Bool) (xs : List ℕ) → length (if b then xs else []) ≤ length xs
if-fits true xs = omega arith
if-fits false xs = omega arith

pub block-fits : (i : Input) (es : List Entry) (hand : ℕ) (e : Event) → length (with_block i hand es e) ≤ length es + 1 + length (plan (es ++ record { hand = hand; what = e } ∷ []))
block-fits i es hand e =
    let after : List Entry = es ++ record { hand = hand; what = e } ∷ [] in
    let stopped : List ℕ = if is_fail e || any_of (broken_after i after) then unbroken i after else [] in
    let long = block-long i es hand e (broken_after i after) stopped refl refl in
    let two = two-fit (λ act. is_active (state act after) && not (may_go_on i after act)) (λ act. is_active (state act after) && may_go_on i after act) 0 (length (plan after)) (λ act h. exclude (is_active (state act after)) (may_go_on i after act) h) in
    let fewer = if-fits (is_fail e || any_of (broken_after i after)) (unbroken i after) in
    omega (arith, long, two, fewer)

-- ---- the block of a failure

-- of tests that say of those that pass another one what they pass, all pass that pass it
split-by : (b c : Bool) (k m n : ℕ) (xs ys zs : List ℕ) → length xs + length ys ≡ length zs
    → length (if b && not c then k ∷ xs else xs) + length (if b && c then m ∷ ys else ys) ≡ length (if b then n ∷ zs else zs)
split-by true true k m n xs ys zs h = omega (arith, h)
split-by true false k m n xs ys zs h = omega (arith, h)
split-by false c k m n xs ys zs h = h

two-split : (p q : ℕ → Bool) (a n : ℕ)
    → length (filter (λ k. p k && not (q k)) (range_with_len a n)) + length (filter (λ k. p k && q k) (range_with_len a n)) ≡ length (filter p (range_with_len a n))
two-split p q a zero = refl
two-split p q a (suc n) =
    split-by (p a) (q a) a a a (filter (λ k. p k && not (q k)) (range_with_len (a + 1) n)) (filter (λ k. p k && q k) (range_with_len (a + 1) n)) (filter p (range_with_len (a + 1) n))
    (two-split p q (a + 1) n)

-- where one that passed no longer does, there is one fewer
head-off : (b c : Bool) (a : ℕ) (xs ys : List ℕ) → b ≡ true → c ≡ false → xs ≡ ys → length (if c then a ∷ xs else xs) + 1 ≡ length (if b then a ∷ ys else ys)
head-off true false a xs ys e f same = let long = ap length same in omega (arith, long)
head-off true true a xs ys e f same = absurd (true≢false f)
head-off false c a xs ys e f same = absurd (true≢false (sym e))

head-kept : (b c : Bool) (a : ℕ) (xs ys : List ℕ) → c ≡ b → length xs + 1 ≡ length ys → length (if c then a ∷ xs else xs) + 1 ≡ length (if b then a ∷ ys else ys)
head-kept true true a xs ys e h = omega (arith, h)
head-kept false false a xs ys e h = h
head-kept true false a xs ys e h = absurd (true≢false (sym e))
head-kept false true a xs ys e h = absurd (true≢false e)

one-fewer-by : (p q : ℕ → Bool) (x a n : ℕ) (t : Bool) → (a == x) ≡ t → p x ≡ true → q x ≡ false → ((k : ℕ) → (k ≡ x → ⊥) → q k ≡ p k)
    → ((a ≡ x → ⊥) → length (filter q (range_with_len (a + 1) n)) + 1 ≡ length (filter p (range_with_len (a + 1) n)))
    → length (filter q (range_with_len a (suc n))) + 1 ≡ length (filter p (range_with_len a (suc n)))
one-fewer-by p q x a n true e on off same more =
    let is : a ≡ x = eqb-true a x e in
    head-off (p a) (q a) a (filter q (range_with_len (a + 1) n)) (filter p (range_with_len (a + 1) n)) (ap p is ∙ on) (ap q is ∙ off)
    (filter-same q p (a + 1) n (λ k l h. same k (λ f. absurd (omega (arith, l, f, is)))))
one-fewer-by p q x a n false e on off same more =
    let other : a ≡ x → ⊥ = λ f. true≢false (sym (eq-eqb a x f) ∙ e) in
    head-kept (p a) (q a) a (filter q (range_with_len (a + 1) n)) (filter p (range_with_len (a + 1) n)) (same a other) (more other)

one-fewer : (p q : ℕ → Bool) (x a n : ℕ) → a ≤ x → x < a + n → p x ≡ true → q x ≡ false → ((k : ℕ) → (k ≡ x → ⊥) → q k ≡ p k)
    → length (filter q (range_with_len a n)) + 1 ≡ length (filter p (range_with_len a n))
one-fewer p q x a zero low high on off same = absurd (omega (arith, low, high))
one-fewer p q x a (suc n) low high on off same =
    one-fewer-by p q x a n (a == x) refl on off same (λ other. one-fewer p q x (a + 1) n (omega (arith, low, other)) (omega (arith, high)) on off same)

-- of states so many are active as of their places
count-head : (b : Bool) (a n : ℕ) (xs : List ℕ) → length xs ≡ n → length (if b then a ∷ xs else xs) ≡ cond b 1 0 + n
count-head true a n xs h = omega (arith, h)
count-head false a n xs h = omega (arith, h)

pub counts-first : (b : Bool) (s : ActState) (states : List ActState) → b ≡ is_active s → cond b 1 0 + count_by is_active states ≡ count_by is_active (s ∷ states)
counts-first b s states e = ap (λ t. cond t 1 0 + count_by is_active states) e ∙ sym (sum_by-cons (λ x. cond (is_active x) 1 0) s states)

count-places : (states : List ActState) (p : ℕ → Bool) (a : ℕ) → ((k : ℕ) → p (a + k) ≡ is_active (slice_index_or states k Waiting))
    → length (filter p (range_with_len a (length states))) ≡ count_by is_active states
count-places [] p a h = refl
count-places (s ∷ states) p a h =
    count-head (p a) a (count_by is_active states) (filter p (range_with_len (a + 1) (length states)))
    (count-places states p (a + 1) (λ k. ap p (omega (arith)) ∙ h (suc k)))
    ∙ counts-first (p a) s states (ap p (omega (arith)) ∙ h 0)

-- a failure's block has an entry for each act that was active
pub fail-block : (i : Input) (es : List Entry) (hand act : ℕ) (why : FailWhy) (l : Acts) → TellsActs es l → is_act_active es act ≡ true → act < length (plan es)
    → length (with_block i hand es (event.Fail act why)) ≡ length es + count_by is_active l.states.items
fail-block i es hand act why l t on there =
    let x : Entry = record { hand = hand; what = event.Fail act why } in
    let after : List Entry = es ++ x ∷ [] in
    let plans : plan after ≡ plan es = read-push (λ a f. unwrap_or (says_plan f) a) [] es x in
    let states : (k : ℕ) → state k after ≡ unwrap_or (only_if (k == act) Failed) (state k es) = λ k. read-push (λ a f. unwrap_or (says_state k f) a) Waiting es x in
    let long = block-long i es hand (event.Fail act why) (broken_after i after) (unbroken i after) refl refl in
    let split = two-split (λ k. is_active (state k after)) (λ k. may_go_on i after k) 0 (length (plan after)) in
    let many : length (plan after) ≡ length (plan es) = ap length plans in
    let fewer : length (filter (λ k. is_active (state k after)) (range_with_len 0 (length (plan after)))) + 1 ≡ length (filter (λ k. is_active (state k es)) (range_with_len 0 (length (plan after)))) =
    one-fewer (λ k. is_active (state k es)) (λ k. is_active (state k after)) act 0 (length (plan after)) (omega arith) (omega (arith, there, many)) on
    (ap is_active (states act) ∙ ap (λ b. is_active (unwrap_or (only_if b Failed) (state act es))) (eq-eqb act act refl))
    (λ k other. ap is_active (states k) ∙ ap (λ b. is_active (unwrap_or (only_if b Failed) (state k es))) (ne_eqb k act other)) in
    let counted : length (filter (λ k. is_active (state k es)) (range_with_len 0 (length l.states.items))) ≡ count_by is_active l.states.items =
    count-places l.states.items (λ k. is_active (state k es)) 0 (λ k. ap (λ n. is_active (state n es)) (omega (arith)) ∙ ap is_active (t.states k)) in
    let as_many : length (plan after) ≡ length l.states.items = many ∙ ap length t.acts ∙ sym t.many in
    let all = ap (λ n. length (filter (λ k. is_active (state k es)) (range_with_len 0 n))) as_many in
    omega (arith, long, split, fewer, all, counted)

-- ---- how much room a block needs

legal-fits : (i : Input) (es : List Entry) (e : Event) → is_legal i es e ≡ true → row_allows i es e ≡ true
legal-fits i es e legal = (and_parts (same_flag (answers_line e) (not (is_running es))) (row_allows i es e) legal).1

failed-block : (i : Input) (es : List Entry) (hand act : ℕ) (why : FailWhy) (l : Acts) → TellsActs es l → is_legal i es (event.Fail act why) ≡ true
    → length (with_block i hand es (event.Fail act why)) ≡ length es + count_by is_active l.states.items
failed-block i es hand act why l t legal =
    let fit = legal-fits i es (event.Fail act why) legal in
    let there : nat_lt act (length l.states.items) ≡ true = acts-there i es (event.Fail act why) l t fit in
    let lt : act < length l.states.items = grind (arith, nat_tests, there) in
    let many = t.many ∙ ap length (sym t.acts) in
    fail-block i es hand act why l t (fail_active i es act why fit) (omega (arith, lt, many))

long-by : (b : Bool) (n m s : ℕ) → (b ≡ true → m ≡ n + 1) → m ≤ n + 1 + s → s ≤ 256 → m ≤ n + (if b then 1 else 257)
long-by true n m s one most few = let e = one refl in omega (arith, e)
long-by false n m s one most few = omega (arith, most, few)

-- a block has no more entries than it may have, where the plan after it is short
pub block-space : (i : Input) (es : List Entry) (hand : ℕ) (e : Event) (l : Ledger) → IsHistory i es → TellsActs es l.acts → is_legal i es e ≡ true → length (unwrap_or (says_plan e) (plan es)) ≤ 256
    → length (with_block i hand es e) ≤ length es + most_entries l e
block-space i es hand (event.Fail act why) l h t legal few = let is = failed-block i es hand act why l.acts t legal in omega (arith, is)
block-space i es hand e l h t legal few =
    let x : Entry = record { hand = hand; what = e } in
    let plans : plan (es ++ x ∷ []) ≡ unwrap_or (says_plan e) (plan es) = read-push (λ a f. unwrap_or (says_plan f) a) [] es x in
    long-by (is_quiet e) (length es) (length (with_block i hand es e)) (length (plan (es ++ x ∷ [])))
    (λ q. ap length (quiet-block i es hand e h q) ∙ length-append es (x ∷ []))
    (block-fits i es hand e) (subst (λ acts. length acts ≤ 256) (sym plans) few)

-- and just as many, where it takes no memory but room
pub quiet-exact : (i : Input) (es : List Entry) (hand : ℕ) (e : Event) → IsHistory i es → is_quiet e ≡ true → length es + 1 ≡ length (with_block i hand es e)
quiet-exact i es hand e h q = sym (ap length (quiet-block i es hand e h q) ∙ length-append es (record { hand = hand; what = e } ∷ []))

pub block-exact : (i : Input) (es : List Entry) (hand : ℕ) (e : Event) (l : Ledger) → IsHistory i es → TellsActs es l.acts → is_legal i es e ≡ true → takes_only_room e ≡ true
    → length es + most_entries l e ≡ length (with_block i hand es e)
block-exact i es hand (event.Fail act why) l h t legal kind = sym (failed-block i es hand act why l.acts t legal)
block-exact i es hand (event.Cancel act why) l h t legal kind = absurd (true≢false (sym (legal-fits i es (event.Cancel act why) legal)))
block-exact i es hand (event.Edit by edit) l h t legal kind = absurd (true≢false (sym kind))
block-exact i es hand (event.Refused by why) l h t legal kind = absurd (true≢false (sym kind))
block-exact i es hand (event.Ask query) l h t legal kind = absurd (true≢false (sym kind))
block-exact i es hand (event.Run for acts) l h t legal kind = absurd (true≢false (sym kind))
block-exact i es hand (event.Replan acts) l h t legal kind = absurd (true≢false (sym kind))
block-exact i es hand (event.Start act) l h t legal kind = absurd (true≢false (sym kind))
block-exact i es hand (event.End act) l h t legal kind = absurd (true≢false (sym kind))
block-exact i es hand e l h t legal kind = quiet-exact i es hand e h refl

-- it has its event at least
pub block-some : (i : Input) (es : List Entry) (e : Event) (l : Ledger) → TellsActs es l.acts → is_legal i es e ≡ true → 1 ≤ most_entries l e
block-some i es (event.Fail act why) l t legal =
    let is = failed-block i es 0 act why l.acts t legal in
    let fit = broken-fit i es 0 (event.Fail act why) (broken_after i (es ++ record { hand = 0; what = event.Fail act why } ∷ [])) refl in
    omega (arith, is, fit)
block-some i es (event.Cancel act why) l t legal = omega arith
block-some i es (event.Edit by edit) l t legal = omega arith
block-some i es (event.Run for acts) l t legal = omega arith
block-some i es (event.Replan acts) l t legal = omega arith
block-some i es (event.Start act) l t legal = omega arith
block-some i es (event.End act) l t legal = omega arith
block-some i es e l t legal = omega arith

-- what takes no memory but room makes no plan, and leaves what is known
pub plans-none : (e : Event) → takes_only_room e ≡ true → makes_plan e ≡ false
plans-none (event.Run for acts) kind = absurd (true≢false (sym kind))
plans-none (event.Replan acts) kind = absurd (true≢false (sym kind))
plans-none e kind = refl

pub leaves-known : (e : Event) → takes_only_room e ≡ true → leaves_known e ≡ true
leaves-known (event.Edit by edit) kind = absurd (true≢false (sym kind))
leaves-known (event.Run for acts) kind = absurd (true≢false (sym kind))
leaves-known (event.Replan acts) kind = absurd (true≢false (sym kind))
leaves-known (event.Start act) kind = absurd (true≢false (sym kind))
leaves-known (event.End act) kind = absurd (true≢false (sym kind))
leaves-known e kind = refl
