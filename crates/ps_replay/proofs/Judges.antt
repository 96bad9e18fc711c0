-- What a judge reaches by one more entry.
use Rattle.std.proofs.Common.{◌≡◌, ℕ, zero, suc, ◌+◌, ◌≤◌, ◌<◌, ◌&&◌, ◌||◌, ◌==◌, ◌↔◌, not, nat_lt, Bool, true, false, IsTrue, if◌then◌else◌, List, [], ◌∷◌, ◌++◌, drop, filter, get_or, length, map, refl, ap, sym, ◌∙◌, subst, arith}
use Rattle.std.specs.List.{AllByRecursion, range_with_len}
use Rattle.std.specs.Option.{unwrap_or}
use Rattle.std.specs.Cmp.{unsigned_Decides}
use Rattle.std.proofs.lemmas.Bool.{eqb-true, true≢false, not-true, ltb-true, and_parts}
use Rattle.std.proofs.lemmas.List.{at_drop_all, drop_more, length-drop}
use Rattle.std.proofs.lemmas.Bool.Decides.{nat_tests}
use Rattle.ps_machine.specs.declared.inputs.Input.{Input}
use Rattle.ps_machine.specs.declared.journal.CancelWhy.{CancelWhy}
use Rattle.ps_machine.specs.declared.journal.CancelWhy.TheVariants as cancel
use Rattle.ps_machine.specs.declared.journal.Entry.{Entry}
use Rattle.ps_machine.specs.declared.journal.Event.{Event}
use Rattle.ps_machine.specs.declared.journal.Event.TheVariants as event
use Rattle.ps_rules.specs.History.{any_of, broken, cancels, forced_after, is_fail, IsHistory, IsWhole, unbroken}
use Rattle.ps_rules.specs.Lines.{answered, due_lines}
use Rattle.ps_rules.specs.Prefixes.{is_due, IsPrefix}
use Rattle.ps_rules.specs.Runs.{is_running, plan, says_plan}
use Rattle.ps_rules.specs.Settled.{places}
use Rattle.ps_rules.proofs.Longest.{is_due-is}
use Rattle.ps_state.specs.State.{Stands}
use Rattle.ps_state.specs.Awaiting.{TakesCancelOf}
use Rattle.ps_state.specs.declared.state.State.{State}
use Rattle.ps_state.proofs.Awaiting.{plan-push}
use Rattle.ps_replay.specs.Judge.{AreInPlan, cancelled_act, due_then, is_cancel_in, is_over, may_come, Reaches, still_due}
use Rattle.ps_replay.specs.declared.judge.Judge.{Judge}
use Rattle.ps_replay.proofs.Leading.{comes-on, done-history, history-done}

-- ---- forced cancels are of acts of the plan

abbrev AllBelow : ℕ → List ℕ → Type 0
AllBelow n acts = AllByRecursion (λ act. nat_lt act n ≡ true) acts

range-below : (n a m : ℕ) → a + m ≤ n → AllBelow n (range_with_len a m)
range-below n a zero h = tt
range-below n a (suc m) h =
    let lt : a < n = omega (arith, h) in
    let is : nat_lt a n ≡ true = grind (arith, nat_tests, lt) in
    (is, range-below n (a + 1) m (omega (arith, h)))

kept-case : (n : ℕ) (p : ℕ → Bool) (act : ℕ) (acts : List ℕ) (b : Bool) → p act ≡ b → nat_lt act n ≡ true → AllBelow n (filter p acts) → AllBelow n (filter p (act ∷ acts))
kept-case n p act acts true e h rest = rw e (h, rest)
kept-case n p act acts false e h rest = rw e rest

filter-below : (n : ℕ) (p : ℕ → Bool) (acts : List ℕ) → AllBelow n acts → AllBelow n (filter p acts)
filter-below n p [] h = tt
filter-below n p (act ∷ acts) h = kept-case n p act acts (p act) refl h.0 (filter-below n p acts h.1)

cancels-in : (n hand : ℕ) (why : CancelWhy) (acts : List ℕ) → AllBelow n acts → AreInPlan n (map (cancels hand why) acts)
cancels-in n hand why [] h = tt
cancels-in n hand why (act ∷ acts) h = (h.0, cancels-in n hand why acts h.1)

stops-in : (n hand : ℕ) (b : Bool) (acts : List ℕ) → AllBelow n acts → AreInPlan n (if b then map (cancels hand cancel.Stop) acts else [])
stops-in n hand true acts h = cancels-in n hand cancel.Stop acts h
stops-in n hand false acts h = tt

appended-in : (n : ℕ) (es fs : List Entry) → AreInPlan n es → AreInPlan n fs → AreInPlan n (es ++ fs)
appended-in n [] fs h g = g
appended-in n (e ∷ es) fs h g = (h.0, appended-in n es fs h.1 g)

places-below : (es : List Entry) → AllBelow (length (plan es)) (places es)
places-below es = range-below (length (plan es)) 0 (length (plan es)) (omega arith)

pub forced-in : (i : Input) (es : List Entry) (hand : ℕ) (e : Event) → AreInPlan (length (plan es)) (forced_after i es hand e)
forced-in i es hand e =
    let n : ℕ = length (plan es) in
    let b : Bool = is_fail e || any_of (broken i es) in
    appended-in n (map (cancels hand cancel.OverAll) (broken i es)) (if b then map (cancels hand cancel.Stop) (unbroken i es) else [])
    (cancels-in n hand cancel.OverAll (broken i es) (filter-below n _ (places es) (places-below es)))
    (stops-in n hand b (unbroken i es) (filter-below n _ (places es) (places-below es)))

-- ---- the cancel that comes

-- a cancel of an act of the plan says its act, which is there
pub act-there : (n : ℕ) (e : Event) → is_cancel_in n e ≡ true → nat_lt (cancelled_act e) n ≡ true
act-there n (event.Cancel act why) h = h
act-there n e h = absurd (true≢false (sym h))

abbrev pub IsCancelFor : Event → Type 0
IsCancelFor e = (why : CancelWhy) × (e ≡ event.Cancel (cancelled_act e) why)

pub is-cancel : (n : ℕ) (e : Event) → is_cancel_in n e ≡ true → IsCancelFor e
is-cancel n (event.Cancel act why) h = (why, refl)
is-cancel n e h = absurd (true≢false (sym h))

-- the first of what is left of a list, and the rest
pub left-more : (xs : List Entry) (k : ℕ) (x : Entry) → k < length xs → get_or xs k x ≡ x → drop k xs ≡ x ∷ drop (k + 1) xs
left-more xs k x h e = drop_more xs k x h ∙ ap (λ y. y ∷ drop (k + 1) xs) e

-- ---- a step

-- the first cancel that is due comes, or another entry does
module _ (i : Input) (es : List Entry) (e c : Entry) (forced : List Entry) (met : ℕ) (there : met < length forced) (first : get_or forced met c ≡ c) where
  left : drop met forced ≡ c ∷ drop (met + 1) forced
  left = left-more forced met c there first

  pub answers : (b : Bool) → b ≡ is_due c e → b ≡ may_come i es (drop met forced) e
  answers b h = h ∙ ap (λ due. may_come i es due e) (sym left)

  pub due-rest : drop (met + 1) forced ≡ due_then i es (drop met forced) e
  due-rest = ap (λ due. due_then i es due e) (sym left)

  pub prefix-rest : IsPrefix i es (drop met forced) → is_due c e ≡ true → IsPrefix i (es ++ e ∷ []) (drop (met + 1) forced)
  prefix-rest l h = subst (IsPrefix i (es ++ e ∷ [])) (sym due-rest) (comes-on i es (drop met forced) e l (sym (answers true (sym h))))

  pub is-in : AreInPlan (length (plan es)) (drop met forced) → is_due c e ≡ true → is_cancel_in (length (plan es)) e.what ≡ true
  is-in w h = ap (λ (x : Entry). is_cancel_in (length (plan es)) x.what) (sym (is_due-is c e h)) ∙ (subst (AreInPlan (length (plan es))) left w).0

  pub as-cancel : AreInPlan (length (plan es)) (drop met forced) → is_due c e ≡ true → (why : CancelWhy) × (e ≡ cancels e.hand why (cancelled_act e.what))
  as-cancel w h = let k = is-cancel (length (plan es)) e.what (is-in w h) in (k.0, λ j. record { hand = e.hand; what = k.1 j })

  same-plan : AreInPlan (length (plan es)) (drop met forced) → is_due c e ≡ true → length (plan (es ++ e ∷ [])) ≡ length (plan es)
  same-plan w h =
      let k = as-cancel w h in
      ap length (plan-push es e ∙ ap (λ (x : Entry). unwrap_or (says_plan x.what) (plan es)) k.1)

  pub within-rest : AreInPlan (length (plan es)) (drop met forced) → is_due c e ≡ true → AreInPlan (length (plan (es ++ e ∷ []))) (drop (met + 1) forced)
  within-rest w h = subst (λ n. AreInPlan n (drop (met + 1) forced)) (sym (same-plan w h)) (subst (AreInPlan (length (plan es))) left w).1

  pub stands-on : (old new : State) → AreInPlan (length (plan es)) (drop met forced) → is_due c e ≡ true → Stands i es old → TakesCancelOf (cancelled_act e.what) old new → Stands i (es ++ e ∷ []) new
  stands-on old new w h s t = let k = as-cancel w h in subst (λ x. Stands i (es ++ x ∷ []) new) (sym k.1) (t i es e.hand k.0 s)

-- ---- the end

-- the act of the cancel that comes is there
pub act-below : (n a : ℕ) (e : Event) → is_cancel_in n e ≡ true → a ≡ cancelled_act e → a < n
act-below n a e h is = ltb-true a n (ap (λ k. nat_lt k n) is ∙ act-there n e h)

both-true : (a b c : Bool) → a ≡ true → b ≡ true → c ≡ false → (a && (b && not c)) ≡ true
both-true a b c e f g = rw (e, f, g) refl

none-left : (xs : List Entry) (k : ℕ) → k ≤ length xs → drop k xs ≡ [] → k ≡ length xs
none-left xs k le e = omega (arith, le, sym (length-drop k xs) ∙ ap length e)

-- a judge is at the end of a whole history exactly where nothing is due and the session is over
pub whole-iff : (i : Input) (es : List Entry) (c : Judge) → Reaches i es c → (b m o : Bool) → b ≡ (m && o) → m ≡ (c.met == length c.forced.items) → o ≡ is_over i es
    → IsTrue b ↔ (IsHistory i es × IsWhole i es)
whole-iff i es c r b m o e em eo =
    let met : Bool = c.met == length c.forced.items in
    let lines : Bool = answered es == length (due_lines i.lines) in
    let is : b ≡ (met && (lines && not (is_running es))) = e ∙ ap (λ x. x && o) em ∙ ap (λ x. met && x) eo in (
      λ h.
          let parts = and_parts met (lines && not (is_running es)) (sym is ∙ h) in
          let two = and_parts lines (not (is_running es)) parts.1 in
          let all : c.met ≡ length c.forced.items = eqb-true c.met (length c.forced.items) parts.0 in
          let past : length c.forced.items ≤ c.met = omega (arith, all) in
          let none : still_due c ≡ [] = at_drop_all (λ x. x) c.forced.items c.met past in (
            done-history i es (still_due c) r.prefix none,
            record {
              lines = eqb-true (answered es) (length (due_lines i.lines)) two.0;
              closed = not-true (is_running es) two.1;
            },
          ),
      λ w.
          let all : c.met ≡ length c.forced.items = none-left c.forced.items c.met r.met (history-done i es (still_due c) r.prefix w.0) in
          is ∙ both-true met lines (is_running es) ((unsigned_Decides c.met (length c.forced.items)).1 all) ((unsigned_Decides (answered es) (length (due_lines i.lines))).1 w.1.lines) w.1.closed,
    )
