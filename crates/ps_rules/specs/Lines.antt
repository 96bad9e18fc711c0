-- The lines of the terminal: which one is answered next, and why it is refused, if it is.
use Rattle.std.specs.Prelude.{ℕ, Bool, true, false, if◌then◌else◌, Option, Some, None, is_none, Result, Ok, Err, List, [], ◌∷◌, map, slice_get}
use Rattle.ps_world.specs.Knowledge.{action_of, edited, predicate_of}
use Rattle.ps_world.specs.declared.edits.EditRefusal.{EditRefusal}
use Rattle.ps_world.specs.declared.domains.Domain.{Domain}
use Rattle.ps_world.specs.declared.known.Knowledge.{Knowledge}
use Rattle.ps_action.specs.Grounding.{ground_act}
use Rattle.ps_action.specs.Plans.{judged}
use Rattle.ps_action.specs.Search.{answer as answered_by}
use Rattle.ps_action.specs.declared.acts.Act.{Act}
use Rattle.ps_action.specs.declared.acts.PlanStep.{PlanStep}
use Rattle.ps_action.specs.declared.acts.GroundAction.{GroundAction}
use Rattle.ps_action.specs.declared.answers.Answer.{Answer}
use Rattle.ps_action.specs.declared.answers.Answer.TheVariants as answer
use Rattle.ps_action.specs.declared.refusals.GroundRefusal.{GroundRefusal}
use Rattle.ps_action.specs.declared.refusals.PlanRefusal.{PlanRefusal}
use Rattle.ps_action.specs.declared.refusals.PlanTextRefusal.{PlanTextRefusal}
use Rattle.ps_machine.specs.declared.inputs.Query.{Query}
use Rattle.ps_machine.specs.declared.inputs.Query.TheVariants as query
use Rattle.ps_machine.specs.declared.inputs.Command.TheVariants as command
use Rattle.ps_machine.specs.declared.inputs.Line.{Line}
use Rattle.ps_machine.specs.declared.inputs.Line.TheVariants.{Good, Bad}
use Rattle.ps_machine.specs.declared.inputs.Input.{Input}
use Rattle.ps_machine.specs.declared.journal.By.TheVariants.{Terminal}
use Rattle.ps_machine.specs.declared.journal.Refusal.{Refusal}
use Rattle.ps_machine.specs.declared.journal.Refusal.TheVariants as refusal
use Rattle.ps_machine.specs.declared.journal.Event.{Event}
use Rattle.ps_machine.specs.declared.journal.Event.TheVariants as event
use Rattle.ps_machine.specs.declared.journal.Entry.{Entry}
use Rattle.ps_rules.specs.Reading.{times}
use Rattle.ps_rules.specs.Runs.{has_run}
use Rattle.ps_rules.specs.Known.{know}

-- ---- the next line

-- whether an event answers a line of the terminal, and so is the terminal's own
abbrev pub answers_line : Event → Bool
answers_line (event.Edit (Terminal n) edit) = true
answers_line (event.Refused (Terminal n) why) = true
answers_line (event.Ask q) = true
answers_line (event.Run for acts) = true
answers_line event.Quit = true
answers_line e = false

-- how many lines of the terminal are answered
abbrev pub answered : List Entry → ℕ
answered es = times answers_line es

-- the lines that a session answers: those up to the first `quit`
abbrev pub due_lines : List Line → List Line
due_lines [] = []
due_lines (Good command.Quit ∷ lines) = Good command.Quit ∷ []
due_lines (line ∷ lines) = line ∷ due_lines lines

-- the line that is answered next
abbrev pub next_line : Input → List Entry → Option Line
next_line i es = slice_get (due_lines i.lines) (answered es)

-- ---- refusals

-- the refusal that an edit's outcome is, if it is one
abbrev pub edit_refusal : Result Knowledge EditRefusal → Option Refusal
edit_refusal (Ok k) = None
edit_refusal (Err r) = Some (refusal.Edit r)

-- the refusal that the grounding of an act is, if it is one
abbrev pub ground_refusal : Result GroundAction GroundRefusal → Option Refusal
ground_refusal (Ok g) = None
ground_refusal (Err r) = Some (refusal.Ground r)

-- the refusal that a plan is judged to be, if it is one
abbrev pub plan_refusal : Result Knowledge PlanRefusal → Option Refusal
plan_refusal (Ok k) = None
plan_refusal (Err r) = Some (refusal.Plan r)

-- why a solver's answer is no plan, if it is none
abbrev pub unplanned : Answer → Option Refusal
unplanned (answer.Plan acts) = None
unplanned answer.NoPlan = Some refusal.NoPlan
unplanned (answer.Spent depth) = Some (refusal.Spent depth)
unplanned answer.TooMany = Some refusal.TooMany

-- that there is no goal, where there is none, and else this cause, if there is one
abbrev pub with_goal : Knowledge → Option Refusal → Option Refusal
with_goal k why = if is_none k.goal then Some refusal.NoGoal else why

-- why no plan is made for the goal, if none is: there is no goal, or the answer that is due is no plan
abbrev pub refusal_of_goal : Domain → Knowledge → ℕ → Option Refusal
refusal_of_goal d k budget = with_goal k (unplanned (answered_by d k budget))

-- the acts of a plan's steps
abbrev pub acts_of : List PlanStep → List Act
acts_of steps = map (λ step. step.act) steps

-- why the plan of a file isn't run, if it isn't: there is no goal, its text has a fault, or it isn't good
abbrev pub refusal_of_steps : Domain → Knowledge → Result (List PlanStep) PlanTextRefusal → Option Refusal
refusal_of_steps d k (Err why) = with_goal k (Some (refusal.PlanText why))
refusal_of_steps d k (Ok steps) = with_goal k (plan_refusal (judged d k (acts_of steps)))

-- why a query is refused, if it is: what it asks for isn't declared, there is no plan, or no run was opened yet
abbrev pub refusal_of_query : Domain → Knowledge → ℕ → Bool → Query → Option Refusal
refusal_of_query d k budget run (query.ModelPredicate n) = if is_none (predicate_of d n) then Some refusal.NoPredicate else None
refusal_of_query d k budget run (query.ModelAction n) = if is_none (action_of d n) then Some refusal.NoAction else None
refusal_of_query d k budget run query.Plan = refusal_of_goal d k budget
refusal_of_query d k budget run query.Tree = if run then None else Some refusal.NoRun
refusal_of_query d k budget run q = None

-- why a line is refused, if it is, where this is known, and where a run was opened before or none was
abbrev pub line_refusal : Domain → Knowledge → ℕ → Bool → Line → Option Refusal
line_refusal d k budget run (Bad cause) = Some (refusal.Line cause)
line_refusal d k budget run (Good (command.Edit edit)) = edit_refusal (edited d k edit)
line_refusal d k budget run (Good (command.Ask q)) = refusal_of_query d k budget run q
line_refusal d k budget run (Good command.Run) = refusal_of_goal d k budget
line_refusal d k budget run (Good (command.RunAction act)) = ground_refusal (ground_act d k.instances act)
line_refusal d k budget run (Good (command.RunPlan steps)) = refusal_of_steps d k steps
line_refusal d k budget run (Good command.Quit) = None

-- why a line is refused after these entries, if it is
abbrev pub refusal_of : Input → List Entry → Line → Option Refusal
refusal_of i es line = line_refusal i.domain (know i es) i.budget (has_run es) line
