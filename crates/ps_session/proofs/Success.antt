-- When success is told.
use Rattle.std.proofs.Common.{◌≡◌, Bool, true, false, if◌then◌else◌, is_none, nat_le, Option, Some, None, IsTrue, List, [], ◌∷◌, ◌++◌, refl, ap, sym, ◌∙◌, subst, append_assoc, append-nil}
use Rattle.std.specs.Bool.{Decides}
use Rattle.std.specs.Option.{option_map_or}
use Rattle.std.proofs.lemmas.Bool.{true≢false, and_parts}
use Rattle.ps_action.specs.Search.{answer as answered_by}
use Rattle.ps_action.specs.declared.answers.Answer.{Answer}
use Rattle.ps_action.specs.declared.answers.Answer.TheVariants as answer
use Rattle.ps_machine.specs.declared.inputs.Input.{Input}
use Rattle.ps_machine.specs.declared.journal.RunKind.{RunKind}
use Rattle.ps_machine.specs.declared.journal.RunKind.TheVariants as run
use Rattle.ps_machine.specs.declared.journal.Outcome.{Outcome}
use Rattle.ps_machine.specs.declared.journal.Outcome.TheVariants as outcome
use Rattle.ps_machine.specs.declared.journal.Event.TheVariants as event
use Rattle.ps_machine.specs.declared.journal.Entry.{Entry}
use Rattle.ps_rules.specs.Known.{know}
use Rattle.ps_rules.specs.Laws.{EachIsLegal, is_cancel}
use Rattle.ps_rules.specs.Legal.{ending, is_legal, is_outcome}
use Rattle.ps_rules.specs.Runs.{kind, replans}
use Rattle.ps_rules.specs.Settled.{any_harmed, given_up, is_blocked, is_reached, is_settled, unreached, verdict}
use Rattle.ps_rules.proofs.Going.{entries_are_legal}
use Rattle.ps_rules.proofs.Kept.{fits-legal}
use Rattle.ps_rules.proofs.SameThings.{same_outcome-decides}
use Rattle.ps_session.specs.Laws.{HistoriesTellSuccess}
use Rattle.ps_session.specs.Session.{over}

-- the entry at a seam is legal where it stands
pub legal-at : (i : Input) (before es after : List Entry) (e : Entry) → EachIsLegal i before (es ++ e ∷ after) → is_cancel e.what ≡ false → IsTrue (is_legal i (before ++ es) e.what)
legal-at i before [] after e h no_cancel = subst (λ xs. IsTrue (is_legal i xs e.what)) (sym (append-nil before)) (h.0 no_cancel)
legal-at i before (f ∷ es) after e h no_cancel =
    subst (λ xs. IsTrue (is_legal i xs e.what)) (append_assoc before (f ∷ []) es) (legal-at i (before ++ f ∷ []) es after e h.1 no_cancel)

-- an outcome that is given is the one that it is tested to be
outcome-is : (how : Outcome) (given : Option Outcome) → is_outcome how given ≡ true → given ≡ Some how
outcome-is how None h = absurd (true≢false (sym h))
outcome-is how (Some other) h = ap Some (sym ((same_outcome-decides how other).0 h))

-- an answer that is no plan ends a run without success
not-given : (a : Answer) → given_up a ≡ Some outcome.Success → ⊥
not-given (answer.Plan acts) h = absurd (cc)
not-given answer.NoPlan h = absurd (cc)
not-given (answer.Spent depth) h = absurd (cc)
not-given answer.TooMany h = absurd (cc)

module _ (i : Input) (es : List Entry) where
  planned-fails : (goalless few blocked : Bool)
      → ending i es (if goalless then Some outcome.NoGoal else (if few then Some (if blocked then outcome.Blocked else outcome.Replans) else None)) ≡ Some outcome.Success → ⊥
  planned-fails true few blocked h = absurd (cc)
  planned-fails false true true h = absurd (cc)
  planned-fails false true false h = absurd (cc)
  planned-fails false false blocked h = not-given (answered_by i.domain (know i es) i.budget) h

  harmed-fails : (harmed : Bool) → Some (if harmed then outcome.Act else outcome.Blocked) ≡ Some outcome.Success → ⊥
  harmed-fails true h = absurd (cc)
  harmed-fails false h = absurd (cc)

  -- a run that hasn't reached its goal doesn't succeed
  unreached-fails : (for : Option RunKind) → ending i es (unreached i es for) ≡ Some outcome.Success → ⊥
  unreached-fails (Some run.Action) h = harmed-fails (any_harmed es) h
  unreached-fails (Some run.Goal) h = planned-fails (is_none (know i es).goal) (nat_le i.replans (replans es)) (is_blocked i es) h
  unreached-fails (Some run.Plan) h = planned-fails (is_none (know i es).goal) (nat_le i.replans (replans es)) (is_blocked i es) h
  unreached-fails None h = planned-fails (is_none (know i es).goal) (nat_le i.replans (replans es)) (is_blocked i es) h

  by-goal : (how : Outcome) (reached : Bool) → ending i es (if reached then Some outcome.Success else unreached i es (kind es)) ≡ Some how
      → Decides reached (how ≡ outcome.Success)
  by-goal how true h = (λ yes. ap (λ o. option_map_or (λ v. v) o how) (sym h), λ success. refl)
  by-goal how false h = (λ no. absurd (true≢false (sym no)), λ success. absurd (unreached-fails (kind es) (h ∙ ap Some success)))

  told : (how : Outcome) → IsTrue (is_legal i es (event.Over how)) → Decides (is_reached i es (kind es)) (how ≡ outcome.Success)
  told how legal =
      let fit = and_parts (is_settled i es) (is_outcome how (ending i es (verdict i es))) (fits-legal i es (event.Over how) legal) in
      by-goal how (is_reached i es (kind es)) (outcome-is how (ending i es (verdict i es)) fit.1)

pub histories_tell_success : HistoriesTellSuccess
histories_tell_success i es history before after hand how is =
    told i before how
    (legal-at i [] before after (over hand how) (subst (EachIsLegal i []) is (entries_are_legal i es history)) refl)
