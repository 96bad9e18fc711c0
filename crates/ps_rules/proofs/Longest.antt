-- How many entries of a journal are a prefix of a history.
use Rattle.std.proofs.Common.{◌≡◌, ℕ, zero, suc, ◌+◌, ◌≤◌, ◌==◌, ◌&&◌, ◌||◌, Bool, true, false, if◌then◌else◌, List, [], ◌∷◌, ◌++◌, length, map, take, refl, arith, ap, sym, ◌∙◌, subst}
use Rattle.std.specs.Cmp.{unsigned_Decides}
use Rattle.std.specs.List.{AllByRecursion}
use Rattle.std.proofs.lemmas.Bool.{eqb-true, true≢false, and_from, and_parts}
use Rattle.ps_machine.specs.declared.inputs.Input.{Input}
use Rattle.ps_machine.specs.declared.journal.CancelWhy.{CancelWhy}
use Rattle.ps_machine.specs.declared.journal.CancelWhy.TheVariants as cancel
use Rattle.ps_machine.specs.declared.journal.Event.{Event}
use Rattle.ps_machine.specs.declared.journal.Event.TheVariants as event
use Rattle.ps_machine.specs.declared.journal.Entry.{Entry}
use Rattle.ps_rules.specs.Legal.{has_hand, is_legal}
use Rattle.ps_rules.specs.History.{any_of, broken, cancels, forced, is_fail, unbroken}
use Rattle.ps_rules.specs.Laws.{is_cancel}
use Rattle.ps_rules.specs.Prefixes.{GoodLengthIsLongest, Leads, good_length, is_due, same_cancel, same_why}
use Rattle.ps_rules.specs.Prefixes.Leads.{here, owed, next}
use Rattle.ps_rules.proofs.Prefixes.{lead-next, lead-owed}

-- ---- cancels

pub same_why-is : (x y : CancelWhy) → same_why x y ≡ true → x ≡ y
same_why-is cancel.OverAll cancel.OverAll h = refl
same_why-is cancel.Stop cancel.Stop h = refl
same_why-is x y h = absurd (cc)

same_why-itself : (x : CancelWhy) → same_why x x ≡ true
same_why-itself cancel.OverAll = refl
same_why-itself cancel.Stop = refl

pub same_cancel-is : (e f : Event) → same_cancel e f ≡ true → e ≡ f
same_cancel-is (event.Cancel act why) (event.Cancel other reason) h =
    let parts = and_parts (act == other) (same_why why reason) h in
    let place = eqb-true act other parts.0 in
    let cause = same_why-is why reason parts.1 in
    λ i. event.Cancel (place i) (cause i)
same_cancel-is e f h = absurd (cc)

same_cancel-itself : (e : Event) → is_cancel e ≡ true → same_cancel e e ≡ true
same_cancel-itself (event.Cancel act why) h = and_from (act == act) (same_why why why) ((unsigned_Decides act act).1 refl) (same_why-itself why)
same_cancel-itself e h = absurd (true≢false (sym h))

pub is_due-is : (c e : Entry) → is_due c e ≡ true → c ≡ e
is_due-is c e h =
    let parts = and_parts (c.hand == e.hand) (same_cancel c.what e.what) h in
    let hand = eqb-true c.hand e.hand parts.0 in
    let what = same_cancel-is c.what e.what parts.1 in
    λ i. record { hand = hand i; what = what i }

is_due-itself : (c : Entry) → is_cancel c.what ≡ true → is_due c c ≡ true
is_due-itself c h =
    and_from (c.hand == c.hand) (same_cancel c.what c.what) ((unsigned_Decides c.hand c.hand).1 refl) (same_cancel-itself c.what h)

-- what is due are cancels
abbrev AreCancels : List Entry → Type 0
AreCancels es = AllByRecursion (λ e. is_cancel e.what ≡ true) es

cancels-are : (hand : ℕ) (why : CancelWhy) (acts : List ℕ) → AreCancels (map (cancels hand why) acts)
cancels-are hand why [] = tt
cancels-are hand why (act ∷ more) = (refl, cancels-are hand why more)

pub stops-are : (hand : ℕ) (b : Bool) (acts : List ℕ) → AreCancels (if b then map (cancels hand cancel.Stop) acts else [])
stops-are hand true acts = cancels-are hand cancel.Stop acts
stops-are hand false acts = tt

appended-are : (es fs : List Entry) → AreCancels es → AreCancels fs → AreCancels (es ++ fs)
appended-are [] fs h g = g
appended-are (e ∷ es) fs h g = (h.0, appended-are es fs h.1 g)

forced-are : (i : Input) (es : List Entry) (e : Entry) → AreCancels (forced i es e)
forced-are i es e =
    let after : List Entry = es ++ e ∷ [] in
    let b : Bool = is_fail e.what || any_of (broken i after) in
    appended-are (map (cancels e.hand cancel.OverAll) (broken i after)) (if b then map (cancels e.hand cancel.Stop) (unbroken i after) else [])
    (cancels-are e.hand cancel.OverAll (broken i after)) (stops-are e.hand b (unbroken i after))

-- ---- the longest prefix

-- so many of these entries lead on from here
abbrev Reaches : Input → List Entry → List Entry → List Entry → Type 0
Reaches i before due es = (last : List Entry) × Leads i before due es last

abbrev IsLongest : Input → List Entry → List Entry → List Entry → ℕ → ℕ → Type 0
IsLongest i before due es n good = (n ≤ good → Reaches i before due (take n es)) × (Reaches i before due (take n es) → n ≤ good)

owed-step : (i : Input) (before due es : List Entry) (c e : Entry) (n good : ℕ) → is_cancel c.what ≡ true → IsLongest i (before ++ e ∷ []) due es n good
    → (b : Bool) → is_due c e ≡ b → IsLongest i before (c ∷ due) (e ∷ es) (suc n) (if b then good + 1 else 0)
owed-step i before due es c e n good cancelled ih true due_now =
    let same : c ≡ e = is_due-is c e due_now in (
      λ few.
          let on = ih.0 (omega (arith, few)) in (
            on.0,
            subst (λ x. Leads i before (c ∷ due) (x ∷ take n es) on.0) same
                (owed before due (take n es) on.0 c (subst (λ x. Leads i (before ++ x ∷ []) due (take n es) on.0) (sym same) on.1)),
          ),
      λ on.
          let later = (lead-owed i before due (take n es) on.0 c e on.1).1 in
          let few = ih.1 (on.0, subst (λ x. Leads i (before ++ x ∷ []) due (take n es) on.0) same later) in
          omega (arith, few),
    )
owed-step i before due es c e n good cancelled ih false due_now = (
  λ few. absurd (omega (arith, few)),
  λ on.
      let same : e ≡ c = (lead-owed i before due (take n es) on.0 c e on.1).0 in
      absurd (true≢false (sym (is_due-itself c cancelled) ∙ ap (is_due c) (sym same) ∙ due_now)),
)

next-step : (i : Input) (before es : List Entry) (e : Entry) (n good : ℕ) → IsLongest i (before ++ e ∷ []) (forced i before e) es n good
    → (b : Bool) → (is_legal i before e.what && has_hand e.what e.hand) ≡ b → IsLongest i before [] (e ∷ es) (suc n) (if b then good + 1 else 0)
next-step i before es e n good ih true fine =
    let parts = and_parts (is_legal i before e.what) (has_hand e.what e.hand) fine in (
      λ few.
          let on = ih.0 (omega (arith, few)) in
          (on.0, next before (take n es) on.0 e parts.0 parts.1 on.1),
      λ on.
          let later = (lead-next i before (take n es) on.0 e on.1).2 in
          let few = ih.1 (on.0, later) in
          omega (arith, few),
    )
next-step i before es e n good ih false fine = (
  λ few. absurd (omega (arith, few)),
  λ on.
      let l = lead-next i before (take n es) on.0 e on.1 in
      absurd (true≢false (sym (and_from (is_legal i before e.what) (has_hand e.what e.hand) l.0 l.1) ∙ fine)),
)

longest : (i : Input) (before due es : List Entry) (n : ℕ) → AreCancels due → n ≤ length es → IsLongest i before due es n (good_length i before due es)
longest i before due es zero are long = (λ _. (due, here before due), λ _. omega arith)
longest i before due [] (suc n) are long = absurd (omega (arith, long))
longest i before (c ∷ due) (e ∷ es) (suc n) are long =
    owed-step i before due es c e n (good_length i (before ++ e ∷ []) due es) are.0
    (longest i (before ++ e ∷ []) due es n are.1 (omega (arith, long))) (is_due c e) refl
longest i before [] (e ∷ es) (suc n) are long =
    next-step i before es e n (good_length i (before ++ e ∷ []) (forced i before e) es)
    (longest i (before ++ e ∷ []) (forced i before e) es n (forced-are i before e) (omega (arith, long))) (is_legal i before e.what && has_hand e.what e.hand) refl

pub good_length_is_longest : GoodLengthIsLongest
good_length_is_longest i es n long = longest i [] [] es n tt long
