-- What the ticker need not look at.
use Rattle.std.proofs.Common.{◌≡◌, ℕ, zero, suc, ◌+◌, ◌<◌, ◌≤◌, ◌==◌, ◌&&◌, not, Bool, true, false, Option, Some, None, is_none, if◌then◌else◌, List, [], ◌∷◌, length, map, refl, ap, arith, sym, ◌∙◌}
use Rattle.std.proofs.lemmas.Bool.{eqb-true, and_right, and_left}
use Rattle.std.proofs.lemmas.Bool.Decides.{nat_tests}
use Rattle.std.specs.List.{list_all, range_with_len}
use Rattle.std.specs.Option.{option_to_list}
use Rattle.ps_machine.specs.declared.inputs.Input.{Input}
use Rattle.ps_machine.specs.declared.journal.Entry.{Entry}
use Rattle.ps_machine.specs.declared.journal.Event.{Event}
use Rattle.ps_machine.specs.declared.journal.Event.TheVariants as event
use Rattle.ps_machine.specs.declared.journal.FailWhy.TheVariants as fail
use Rattle.ps_machine.specs.declared.journal.Outcome.{Outcome}
use Rattle.ps_rules.specs.Choices.{overs, wants_plan}
use Rattle.ps_rules.specs.Legal.{is_act_active, is_finished, is_legal, row_allows, same_flag}
use Rattle.ps_rules.specs.Lines.{answers_line}
use Rattle.ps_rules.specs.Runs.{is_active, is_running, plan, state}
use Rattle.ps_rules.specs.Settled.{is_ready, is_settled, places, verdict}
use Rattle.ps_actors.specs.Ticks.{fails_of, on_act}
use Rattle.ps_actors.specs.Turns.{first_legal}
use Rattle.ps_actors.specs.declared.acts.AboutAct.TheVariants as act

second-false : (a b d : Bool) → b ≡ false → (a && (b && d)) ≡ false
second-false a b d h = and_right a (b && d) (and_left b d h)

-- an event that doesn't fit is passed over
skip : (i : Input) (es : List Entry) (e : Event) (xs : List Event) → row_allows i es e ≡ false → first_legal i es (e ∷ xs) ≡ first_legal i es xs
skip i es e xs h =
    ap (λ b. if b then Some e else first_legal i es xs)
    (and_right (same_flag (answers_line e) (not (is_running es))) (row_allows i es e) h)

-- ---- acts

-- an act that isn't active neither ends nor fails
pub not-active : (i : Input) (es : List Entry) (a : ℕ) → is_act_active es a ≡ false → None ≡ first_legal i es (on_act act.Finish es a)
not-active i es a h =
    sym (skip i es (event.End a) (fails_of a) (and_left (is_act_active es a) _ h)
    ∙ skip i es (event.Fail a fail.Script) (event.Fail a fail.AtEnd ∷ event.Fail a fail.Effect ∷ []) (and_left (is_act_active es a) _ h)
    ∙ skip i es (event.Fail a fail.AtEnd) (event.Fail a fail.Effect ∷ []) (and_left (is_act_active es a) _ h)
    ∙ skip i es (event.Fail a fail.Effect) [] (and_left (is_act_active es a) _ h))

-- an act that wasn't finished well may only have been finished badly
pub not-finished : (i : Input) (es : List Entry) (a : ℕ) → is_finished true es a ≡ false
    → first_legal i es (event.Fail a fail.Script ∷ []) ≡ first_legal i es (on_act act.Finish es a)
not-finished i es a h =
    ap (λ o. if is_legal i es (event.Fail a fail.Script) then Some (event.Fail a fail.Script) else o)
    (sym (skip i es (event.Fail a fail.AtEnd) (event.Fail a fail.Effect ∷ []) (second-false (is_act_active es a) (is_finished true es a) _ h)
    ∙ skip i es (event.Fail a fail.Effect) [] (second-false (is_act_active es a) (is_finished true es a) _ h)))
    ∙ sym (skip i es (event.End a) (fails_of a) (second-false (is_act_active es a) (is_finished true es a) _ h))

-- an act that isn't ready doesn't start
pub not-ready : (i : Input) (es : List Entry) (a : ℕ) → is_ready i es a ≡ false → None ≡ first_legal i es (on_act act.Begin es a)
not-ready i es a h = sym (skip i es (event.Start a) [] (second-false _ (is_ready i es a) _ h))

-- ---- the end of the run

not-all : (p : ℕ → Bool) (a n k : ℕ) → a ≤ k → k < a + n → p k ≡ false → list_all p (range_with_len a n) ≡ false
not-all p a zero k low high h = absurd (omega (arith, low, high))
not-all p a (suc n) k low high h = by-first (λ next. not-all p (a + 1) n k next (omega (arith, high)) h) (a == k) refl
  where
    by-first : (a + 1 ≤ k → list_all p (range_with_len (a + 1) n) ≡ false) → (t : Bool) → (a == k) ≡ t → (p a && list_all p (range_with_len (a + 1) n)) ≡ false
    by-first later true e = and_left (p a) (list_all p (range_with_len (a + 1) n)) (ap p (eqb-true a k e) ∙ h)
    by-first later false e = and_right (p a) (list_all p (range_with_len (a + 1) n)) (later (grind (arith, nat_tests, low, e)))

-- a run with an active act isn't settled
pub not-settled : (i : Input) (es : List Entry) (a : ℕ) → a < length (plan es) → is_active (state a es) ≡ true → is_settled i es ≡ false
not-settled i es a lt h =
    and_left (list_all (λ k. not (is_active (state k es))) (places es)) _
    (not-all (λ k. not (is_active (state k es))) 0 (length (plan es)) a (omega arith) (omega (arith, lt)) (ap not h))

-- and so it isn't over
pub not-over : (i : Input) (es : List Entry) → is_settled i es ≡ false → None ≡ first_legal i es (overs i es)
not-over i es h = by-verdict (verdict i es)
  where
    by-verdict : (v : Option Outcome) → None ≡ first_legal i es (map event.Over (option_to_list v))
    by-verdict None = refl
    by-verdict (Some how) = sym (skip i es (event.Over how) [] (and_left (is_settled i es) _ h))

-- nor is a plan wanted
pub not-wanted : (i : Input) (es : List Entry) → is_settled i es ≡ false → wants_plan i es ≡ false
not-wanted i es h = and_right (is_running es) (is_settled i es && is_none (verdict i es)) (and_left (is_settled i es) _ h)
