-- What is forced: cancels, and none by the end of a run.
use Rattle.std.proofs.Common.{◌≡◌, ℕ, ◌||◌, Bool, true, false, not, List, [], ◌∷◌, ◌++◌, length, map, if◌then◌else◌, IsTrue, arith, ap, sym, ◌∙◌, subst, append-nil}
use Rattle.std.specs.List.{AllByRecursion, list_all}
use Rattle.std.specs.Option.{unwrap_or}
use Rattle.std.proofs.lemmas.Bool.{ltb-true, true≢false, and_parts}
use Rattle.ps_action.specs.declared.states.ActState.TheVariants.{Waiting}
use Rattle.ps_machine.specs.declared.inputs.Input.{Input}
use Rattle.ps_machine.specs.declared.journal.CancelWhy.{CancelWhy}
use Rattle.ps_machine.specs.declared.journal.CancelWhy.TheVariants as cancel
use Rattle.ps_machine.specs.declared.journal.Outcome.{Outcome}
use Rattle.ps_machine.specs.declared.journal.Event.{Event}
use Rattle.ps_machine.specs.declared.journal.Event.TheVariants as event
use Rattle.ps_machine.specs.declared.journal.Entry.{Entry}
use Rattle.ps_rules.specs.Runs.{is_active, plan, says_state, state}
use Rattle.ps_rules.specs.Settled.{is_settled, places, verdict}
use Rattle.ps_rules.specs.Legal.{ending, is_legal, is_outcome}
use Rattle.ps_rules.specs.History.{any_of, broken, cancels, forced, forced_after, is_fail, IsHistory, unbroken}
use Rattle.ps_rules.proofs.Going.{placed}
use Rattle.ps_rules.proofs.Kept.{fits-legal}
use Rattle.ps_rules.proofs.Pushed.{read-push}
use Rattle.ps_rules.proofs.Between.{active-so, unforced}
use Rattle.ps_progress_laws.proofs.Lists.{all_in, in_range}
use Rattle.ps_progress_laws.proofs.Picking.{by_test}

-- ---- what holds of each cancel with a hand holds of each forced one

module _ (P : Entry → Type 0) (hand : ℕ) (each : (why : CancelWhy) (act : ℕ) → P (cancels hand why act)) where
  each-cancel : (why : CancelWhy) (acts : List ℕ) (more : List Entry) → AllByRecursion P more → AllByRecursion P (map (cancels hand why) acts ++ more)
  each-cancel why [] more h = h
  each-cancel why (act ∷ acts) more h = (each why act, each-cancel why acts more h)

  each-stop : (b : Bool) (acts : List ℕ) → AllByRecursion P (if b then map (cancels hand cancel.Stop) acts else [])
  each-stop true acts = subst (AllByRecursion P) (append-nil (map (cancels hand cancel.Stop) acts)) (each-cancel cancel.Stop acts [] tt)
  each-stop false acts = tt

  pub each-forced : (i : Input) (es : List Entry) (e : Event) → AllByRecursion P (forced_after i es hand e)
  each-forced i es e =
      each-cancel cancel.OverAll (broken i es) (if is_fail e || any_of (broken i es) then map (cancels hand cancel.Stop) (unbroken i es) else [])
      (each-stop (is_fail e || any_of (broken i es)) (unbroken i es))

-- ---- the end of a run forces none

-- in a settled run no act is active
settled-still : (i : Input) (es : List Entry) → IsHistory i es → is_settled i es ≡ true → (act : ℕ) → is_active (state act es) ≡ false
settled-still i es h settled act =
    by_test (is_active (state act es))
    (λ t.
    let l = ltb-true act (length (plan es)) (placed i es h act (active-so (state act es) t)) in
    let none = all_in (λ a. not (is_active (state a es))) (places es) (and_parts (list_all (λ a. not (is_active (state a es))) (places es)) _ settled).0 act
    (in_range act 0 (length (plan es)) (omega arith) (omega (arith, l))) in
    absurd (true≢false (sym none ∙ ap not t)))
    (λ t. t)

pub over-forces-nothing : (i : Input) (es : List Entry) (e : Entry) (how : Outcome) → IsHistory i es → IsTrue (is_legal i es e.what) → e.what ≡ event.Over how → forced i es e ≡ []
over-forces-nothing i es e how h legal is =
    let settled = (and_parts (is_settled i es) (is_outcome how (ending i es (verdict i es))) (fits-legal i es (event.Over how) (subst (λ f. IsTrue (is_legal i es f)) is legal))).0 in
    unforced i es e (λ act.
    ap is_active (read-push (λ s f. unwrap_or (says_state act f) s) Waiting es e ∙ ap (λ f. unwrap_or (says_state act f) (state act es)) is)
    ∙ settled-still i es h settled act)
