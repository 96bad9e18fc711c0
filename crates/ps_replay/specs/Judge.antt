-- Judges entry by entry: what those so far have come to.
use Rattle.std.specs.Prelude.{◌≡◌, ℕ, ◌≤◌, nat_lt, Bool, true, false, not, ◌&&◌, ◌==◌, IsTrue, List, [], ◌∷◌, ◌++◌, drop, length}
use Rattle.std.specs.List.{AllByRecursion}
use Rattle.ps_action.specs.declared.acts.Act.{Act}
use Rattle.ps_action.specs.declared.answers.Answer.TheVariants.{Plan}
use Rattle.ps_machine.specs.declared.inputs.Input.{Input}
use Rattle.ps_machine.specs.declared.inputs.Query.TheVariants as query
use Rattle.ps_machine.specs.declared.journal.Entry.{Entry}
use Rattle.ps_machine.specs.declared.journal.Event.{Event}
use Rattle.ps_machine.specs.declared.journal.Event.TheVariants as event
use Rattle.ps_rules.specs.Choices.{Says}
use Rattle.ps_rules.specs.History.{forced, IsHistory}
use Rattle.ps_rules.specs.Known.{know}
use Rattle.ps_rules.specs.Legal.{has_hand, is_legal, is_query}
use Rattle.ps_rules.specs.Prefixes.{is_due, IsPrefix}
use Rattle.ps_rules.specs.Lines.{answered, due_lines, next_line}
use Rattle.ps_rules.specs.Runs.{is_running, plan}
use Rattle.ps_state.specs.State.{Stands}
use Rattle.ps_state.specs.declared.state.State.{State}
use Rattle.ps_replay.specs.declared.judge.Judge.{Judge}

-- whether every line that is due is answered, and no run is open
abbrev pub is_over : Input → List Entry → Bool
is_over i es = (answered es == length (due_lines i.lines)) && not (is_running es)

-- the cancels that are still due
abbrev pub still_due : Judge → List Entry
still_due c = drop c.met c.forced.items

-- whether an event is the cancel of an act, of which there are so many
abbrev pub is_cancel_in : ℕ → Event → Bool
is_cancel_in n (event.Cancel act why) = nat_lt act n
is_cancel_in n e = false

-- the act that an event cancels; the first where it cancels none
abbrev pub cancelled_act : Event → ℕ
cancelled_act (event.Cancel act why) = act
cancelled_act e = 0

-- these are cancels of acts, of which there are so many
abbrev pub AreInPlan : ℕ → List Entry → Type 0
AreInPlan n due = AllByRecursion (λ c. is_cancel_in n c.what ≡ true) due

-- These entries are a prefix of a history: what is kept is what they tell, and what is due after them is due.
pub record Reaches (i : Input) (es : List Entry) (c : Judge) : Type 0 where
  pub stands : Stands i es c.state
  pub prefix : IsPrefix i es (still_due c)
  pub within : AreInPlan (length (plan es)) (still_due c)
  pub met : c.met ≤ length c.forced.items

-- whether an event leaves what is known, the plan and the states of its acts
abbrev pub is_quiet : Event → Bool
is_quiet (event.Edit by edit) = false
is_quiet (event.Run for acts) = false
is_quiet (event.Replan acts) = false
is_quiet (event.Start act) = false
is_quiet (event.End act) = false
is_quiet (event.Fail act why) = false
is_quiet (event.Cancel act why) = false
is_quiet e = true

-- these are the cancels that an entry forces which came after a history, where this is kept since
abbrev pub ForcedBy : State → Entry → List Entry → Type 0
ForcedBy p e all = (i : Input) (es : List Entry) → IsHistory i es → Stands i (es ++ e ∷ []) p → all ≡ forced i es e

-- whether an entry may come after these entries, where these cancels are due: it is the first of them, or, where none is due, it is a
-- legal event with a hand that it may have
abbrev pub may_come : Input → List Entry → List Entry → Entry → Bool
may_come i es (c ∷ due) e = is_due c e
may_come i es [] e = is_legal i es e.what && has_hand e.what e.hand

-- the cancels that are due after it
abbrev pub due_then : Input → List Entry → List Entry → Entry → List Entry
due_then i es (c ∷ due) e = due
due_then i es [] e = forced i es e

-- these entries, after which these cancels were due, and one more are a prefix of a history, and what is due then is due
pub record GoesTo (i : Input) (es : List Entry) (e : Entry) (before : List Entry) (new : Judge) : Type 0 where
  pub reaches : Reaches i (es ++ e ∷ []) new
  pub due : still_due new ≡ due_then i es before e

-- whether the query for a plan may come after these entries by this hand, where no cancel is due, if there is a plan
abbrev pub may_ask_plan : Input → List Entry → ℕ → Bool
may_ask_plan i es hand = (hand == 0) && (not (is_running es) && is_query query.Plan (next_line i es))

-- where an event that comes after these entries is the query for a plan, this is the plan that the solver answers
abbrev pub TellsPlan : Says → Input → List Entry → Event → List Act → Type 0
TellsPlan says i es (event.Ask query.Plan) plan = says i.domain (know i es) i.budget ≡ Plan plan
TellsPlan says i es e plan = Unit {0}

-- whether an entry may come is answered, and if it may it has come, with the plan that it asks for, if it asks for one
pub record Comes (says : Says) (i : Input) (es : List Entry) (e : Entry) (old : Judge) (b : Bool) (new : Judge) : Type 0 where
  pub answer : b ≡ may_come i es (still_due old) e
  pub comes : IsTrue b → GoesTo i es e (still_due old) new
  pub told : IsTrue b → TellsPlan says i es e.what new.plan
