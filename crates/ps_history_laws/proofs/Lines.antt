-- What the next line says can be said, and why it is refused has names of the table alone.
use Rattle.std.proofs.Common.{ℕ, Bool, true, false, Option, Some, None, is_none, IfSome, Result, Ok, Err, List, [], ◌∷◌, All, MatchResult, if◌then◌else◌, length}
use Rattle.std.proofs.lemmas.List.Elements.{All-nil, All-cons, All-head, All-map, All-tail}
use Rattle.std.specs.Result.{IfErr}
use Rattle.ps_world.specs.Names.{Table}
use Rattle.ps_world.specs.Knowledge.{action_of, edited, predicate_of}
use Rattle.ps_world.specs.Tables.{IsEditRefusalOf}
use Rattle.ps_world.specs.declared.domains.Domain.{Domain}
use Rattle.ps_world.specs.declared.edits.EditRefusal.{EditRefusal}
use Rattle.ps_world.specs.declared.known.Knowledge.{Knowledge}
use Rattle.ps_action.specs.Grounding.{ground_act}
use Rattle.ps_action.specs.Plans.{judged}
use Rattle.ps_action.specs.Search.{answer as answered_by}
use Rattle.ps_action.specs.declared.acts.GroundAction.{GroundAction}
use Rattle.ps_action.specs.declared.answers.Answer.{Answer}
use Rattle.ps_action.specs.declared.answers.Answer.TheVariants as answer
use Rattle.ps_action.specs.declared.refusals.GroundRefusal.{GroundRefusal}
use Rattle.ps_action.specs.declared.refusals.PlanRefusal.{PlanRefusal}
use Rattle.ps_machine.specs.Tables.{IsActOf, IsGroundRefusalOf, IsPlanRefusalOf, IsRefusalOf}
use Rattle.ps_machine.specs.declared.inputs.Command.TheVariants as command
use Rattle.ps_machine.specs.declared.inputs.Input.{Input}
use Rattle.ps_machine.specs.declared.inputs.Line.{Line}
use Rattle.ps_machine.specs.declared.inputs.Line.TheVariants.{Good, Bad}
use Rattle.ps_machine.specs.declared.inputs.Query.{Query}
use Rattle.ps_machine.specs.declared.inputs.Query.TheVariants as query
use Rattle.ps_machine.specs.declared.journal.Entry.{Entry}
use Rattle.ps_machine.specs.declared.journal.Refusal.{Refusal}
use Rattle.ps_machine.specs.declared.journal.Refusal.TheVariants as refusal
use Rattle.ps_rules.specs.Lines.{acts_of, answered, due_lines, edit_refusal, ground_refusal, line_refusal, next_line, plan_refusal, refusal_of_goal, refusal_of_query, unplanned, with_goal}
use Rattle.ps_rules.proofs.Notes.{got-has}
use Rattle.ps_history_laws.specs.Inputs.{IsSayableLine}
use Rattle.ps_history_laws.proofs.Acts.{act-refused, plan-refused}
use Rattle.ps_history_laws.proofs.Faults.{AreInstancesOf, edited-gives}

-- ---- the next line

-- what holds of all lines holds of those that are due
due-have : (P : Line → Type 0) (lines : List Line) → All P lines → All P (due_lines lines)
due-have P [] h = h
due-have P (Good command.Quit ∷ lines) h = All-cons P (Good command.Quit) [] (All-head P (Good command.Quit) lines h) (All-nil P)
due-have P (line ∷ lines) h = All-cons P line (due_lines lines) (All-head P line lines h) (due-have P lines (All-tail P line lines h))

-- the next line can be said
pub next-line : (names : Table) (i : Input) (es : List Entry) → All (IsSayableLine names) i.lines → IfSome (next_line i es) (IsSayableLine names)
next-line names i es h = got-has (IsSayableLine names) (due_lines i.lines) (answered es) (due-have (IsSayableLine names) i.lines h)

-- ---- refusals

module _ (count : ℕ) where
  -- a cause's names are of the table, if there is one
  abbrev pub IsNamed : Option Refusal → Type 0
  IsNamed why = IfSome why (IsRefusalOf count)

  pub edit-named : (outcome : Result Knowledge EditRefusal) → MatchResult outcome (λ new. AreInstancesOf count new.instances) (IsEditRefusalOf count) → IsNamed (edit_refusal outcome)
  edit-named (Ok k) h = tt
  edit-named (Err r) h = h

  ground-named : (outcome : Result GroundAction GroundRefusal) → IfErr outcome (IsGroundRefusalOf count) → IsNamed (ground_refusal outcome)
  ground-named (Ok g) h = tt
  ground-named (Err r) h = h

  plan-named : (outcome : Result Knowledge PlanRefusal) → IfErr outcome (IsPlanRefusalOf count) → IsNamed (plan_refusal outcome)
  plan-named (Ok k) h = tt
  plan-named (Err r) h = h

  unplanned-named : (a : Answer) → IsNamed (unplanned a)
  unplanned-named (answer.Plan acts) = tt
  unplanned-named answer.NoPlan = tt
  unplanned-named (answer.Spent depth) = tt
  unplanned-named answer.TooMany = tt

  with_goal-named : (k : Knowledge) (why : Option Refusal) → IsNamed why → IsNamed (with_goal k why)
  with_goal-named k why h = elim (is_none k.goal) as (λ b. IsNamed (if b then Some refusal.NoGoal else why)) [ true ↦ tt | false ↦ h ]

  goal-named : (d : Domain) (budget : ℕ) (k : Knowledge) → IsNamed (refusal_of_goal d k budget)
  goal-named d budget k = with_goal-named k (unplanned (answered_by d k budget)) (unplanned-named (answered_by d k budget))

  query-named : (d : Domain) (budget : ℕ) (k : Knowledge) (run : Bool) (q : Query) → IsNamed (refusal_of_query d k budget run q)
  query-named d budget k run (query.ModelPredicate n) = elim (is_none (predicate_of d n)) as (λ b. IsNamed (if b then Some refusal.NoPredicate else None)) [ true ↦ tt | false ↦ tt ]
  query-named d budget k run (query.ModelAction n) = elim (is_none (action_of d n)) as (λ b. IsNamed (if b then Some refusal.NoAction else None)) [ true ↦ tt | false ↦ tt ]
  query-named d budget k run query.Plan = goal-named d budget k
  query-named d budget k run query.Tree = elim run as (λ b. IsNamed (if b then None else Some refusal.NoRun)) [ true ↦ tt | false ↦ tt ]
  query-named d budget k run q = tt

-- the refusal of a line that can be said has names of the table
pub refused-line : (names : Table) (d : Domain) (budget : ℕ) (k : Knowledge) (run : Bool) (line : Line) → AreInstancesOf (length names) k.instances → IsSayableLine names line
    → IsNamed (length names) (line_refusal d k budget run line)
refused-line names d budget k run (Bad cause) named h = tt
refused-line names d budget k run (Good (command.Edit edit)) named h = edit-named (length names) (edited d k edit) (edited-gives names d k edit h named)
refused-line names d budget k run (Good (command.Ask q)) named h = query-named (length names) d budget k run q
refused-line names d budget k run (Good command.Run) named h = goal-named (length names) d budget k
refused-line names d budget k run (Good (command.RunAction act)) named h = ground-named (length names) (ground_act d k.instances act) (act-refused (length names) d k.instances act h)
refused-line names d budget k run (Good (command.RunPlan (Ok steps))) named h =
    with_goal-named (length names) k (plan_refusal (judged d k (acts_of steps)))
    (plan-named (length names) (judged d k (acts_of steps)) (plan-refused (length names) d k (acts_of steps) (All-map (IsActOf (length names)) (λ step. step.act) steps h)))
refused-line names d budget k run (Good (command.RunPlan (Err why))) named h = with_goal-named (length names) k (Some (refusal.PlanText why)) tt
refused-line names d budget k run (Good command.Quit) named h = tt
