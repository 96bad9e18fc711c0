-- The texts of the journal's entries. A text is a list of bytes.
use Rattle.std.specs.Prelude.{ℕ, Bool, true, false, List, ◌++◌, codes}
use Rattle.std.specs.List.{flat_map}
use Rattle.std.specs.Fmt.{decimal}
use Rattle.ps_world.specs.Names.{Table, name_text}
use Rattle.ps_world.specs.Texts.{args_text, edit_text, edit_refusal_text}
use Rattle.ps_world.specs.declared.names.Name.{Name}
use Rattle.ps_action.specs.declared.acts.Act.{Act}
use Rattle.ps_action.specs.declared.refusals.EffectRefusal.{EffectRefusal}
use Rattle.ps_action.specs.declared.refusals.EffectRefusal.TheVariants as effect
use Rattle.ps_action.specs.declared.refusals.GroundRefusal.{GroundRefusal}
use Rattle.ps_action.specs.declared.refusals.GroundRefusal.TheVariants as ground
use Rattle.ps_action.specs.declared.refusals.PlanRefusal.{PlanRefusal}
use Rattle.ps_action.specs.declared.refusals.PlanRefusal.TheVariants as plan
use Rattle.ps_action.specs.declared.refusals.PlanTextRefusal.{PlanTextRefusal}
use Rattle.ps_action.specs.declared.refusals.PlanTextRefusal.TheVariants as plantext
use Rattle.ps_machine.specs.declared.inputs.LineCause.{LineCause}
use Rattle.ps_machine.specs.declared.inputs.LineCause.TheVariants as line
use Rattle.ps_machine.specs.declared.inputs.Query.{Query}
use Rattle.ps_machine.specs.declared.inputs.Query.TheVariants as query
use Rattle.ps_machine.specs.declared.journal.By.{By}
use Rattle.ps_machine.specs.declared.journal.By.TheVariants.{Terminal, Performer, Observer}
use Rattle.ps_machine.specs.declared.journal.Refusal.{Refusal}
use Rattle.ps_machine.specs.declared.journal.Refusal.TheVariants as refusal
use Rattle.ps_machine.specs.declared.journal.RunKind.{RunKind}
use Rattle.ps_machine.specs.declared.journal.RunKind.TheVariants as kind
use Rattle.ps_machine.specs.declared.journal.PassWhy.{PassWhy}
use Rattle.ps_machine.specs.declared.journal.PassWhy.TheVariants as pass
use Rattle.ps_machine.specs.declared.journal.FailWhy.{FailWhy}
use Rattle.ps_machine.specs.declared.journal.FailWhy.TheVariants as fail
use Rattle.ps_machine.specs.declared.journal.CancelWhy.{CancelWhy}
use Rattle.ps_machine.specs.declared.journal.CancelWhy.TheVariants as cancel
use Rattle.ps_machine.specs.declared.journal.Outcome.{Outcome}
use Rattle.ps_machine.specs.declared.journal.Outcome.TheVariants as outcome
use Rattle.ps_machine.specs.declared.journal.Event.{Event}
use Rattle.ps_machine.specs.declared.journal.Event.TheVariants as event
use Rattle.ps_machine.specs.declared.journal.Entry.{Entry}

-- a query, as a line of the terminal says it
abbrev pub query_text : Table → Query → List ℕ
query_text names query.ModelTypes = codes "get model types"
query_text names query.ModelPredicates = codes "get model predicates"
query_text names query.ModelFunctions = codes "get model functions"
query_text names query.ModelActions = codes "get model actions"
query_text names (query.ModelPredicate n) = codes "get model predicate " ++ name_text names n
query_text names (query.ModelAction n) = codes "get model action " ++ name_text names n
query_text names query.Domain = codes "get domain"
query_text names query.ProblemInstances = codes "get problem instances"
query_text names query.ProblemPredicates = codes "get problem predicates"
query_text names query.ProblemFunctions = codes "get problem functions"
query_text names query.ProblemGoal = codes "get problem goal"
query_text names query.Plan = codes "get plan"
query_text names query.Tree = codes "get tree"

-- ---- causes

-- the cause for which a line is no command
abbrev pub line_cause_text : LineCause → List ℕ
line_cause_text (line.Lex at) = codes "Lex " ++ decimal at
line_cause_text (line.Number at) = codes "Number " ++ decimal at
line_cause_text line.Command = codes "Command"
line_cause_text (line.Shape at) = codes "Shape " ++ decimal at
line_cause_text line.Nest = codes "Nest"

-- the cause for which an act can't be grounded
abbrev pub ground_text : Table → GroundRefusal → List ℕ
ground_text names ground.NoAction = codes "NoAction"
ground_text names (ground.Arity want got) = codes "Arity " ++ (decimal want ++ (codes " " ++ decimal got))
ground_text names (ground.NoInstance n) = codes "NoInstance " ++ name_text names n
ground_text names (ground.WrongType at) = codes "WrongType " ++ decimal at

-- the cause for which effects can't be made
abbrev pub effect_text : EffectRefusal → List ℕ
effect_text (effect.Clash at) = codes "Clash " ++ decimal at
effect_text (effect.Undefined at) = codes "Undefined " ++ decimal at
effect_text (effect.Range at) = codes "Range " ++ decimal at

-- the cause for which a plan isn't good, after the word `Plan`
abbrev pub plan_cause_text : Table → PlanRefusal → List ℕ
plan_cause_text names plan.NoGoal = codes "NoGoal"
plan_cause_text names (plan.Ground at r) = decimal at ++ (codes " " ++ ground_text names r)
plan_cause_text names (plan.StartFalse at) = decimal at ++ codes " StartFalse"
plan_cause_text names (plan.StartEffect at r) = decimal at ++ (codes " StartEffect " ++ effect_text r)
plan_cause_text names (plan.OverAllFalse at) = decimal at ++ codes " OverAllFalse"
plan_cause_text names (plan.EndFalse at) = decimal at ++ codes " EndFalse"
plan_cause_text names (plan.EndEffect at r) = decimal at ++ (codes " EndEffect " ++ effect_text r)
plan_cause_text names plan.GoalFalse = codes "GoalFalse"

-- the cause for which a text is no plan, after the word `PlanText`
abbrev pub plan_text_cause : PlanTextRefusal → List ℕ
plan_text_cause (plantext.Line n) = codes "Line " ++ decimal n
plan_text_cause (plantext.Long n) = codes "Long " ++ decimal n

-- the cause of a refusal
abbrev pub refusal_text : Table → Refusal → List ℕ
refusal_text names (refusal.Line cause) = line_cause_text cause
refusal_text names (refusal.Edit r) = edit_refusal_text names r
refusal_text names (refusal.Ground r) = ground_text names r
refusal_text names (refusal.Plan r) = codes "Plan " ++ plan_cause_text names r
refusal_text names (refusal.PlanText r) = codes "PlanText " ++ plan_text_cause r
refusal_text names refusal.NoGoal = codes "NoGoal"
refusal_text names refusal.NoPlan = codes "NoPlan"
refusal_text names (refusal.Spent depth) = codes "Spent " ++ decimal depth
refusal_text names refusal.TooMany = codes "TooMany"
refusal_text names refusal.NoRun = codes "NoRun"
refusal_text names refusal.NoPredicate = codes "NoPredicate"
refusal_text names refusal.NoAction = codes "NoAction"

-- ---- events

-- whose edit it is
abbrev pub by_text : Table → By → List ℕ
by_text names (Terminal n) = codes "terminal " ++ decimal n
by_text names (Performer r p) = codes "performer " ++ (decimal r ++ (codes " " ++ name_text names p))
by_text names (Observer o) = codes "observer " ++ name_text names o

-- an act, as (move leia hall), after a space
abbrev pub act_text : Table → Act → List ℕ
act_text names act = codes " (" ++ (name_text names act.action ++ (args_text names act.args ++ codes ")"))

abbrev pub acts_text : Table → List Act → List ℕ
acts_text names acts = flat_map (act_text names) acts

-- what a run is for
abbrev pub kind_text : RunKind → List ℕ
kind_text kind.Goal = codes "goal"
kind_text kind.Plan = codes "plan"
kind_text kind.Action = codes "action"

-- why there is no offer, why an act failed, why it was cancelled, and how a run ended
abbrev pub pass_text : PassWhy → List ℕ
pass_text pass.Other = codes "other"
pass_text pass.Busy = codes "busy"
pass_text pass.Late = codes "late"

abbrev pub fail_text : FailWhy → List ℕ
fail_text fail.NoPerformer = codes "noperformer"
fail_text fail.Script = codes "script"
fail_text fail.AtEnd = codes "atend"
fail_text fail.Effect = codes "effect"

abbrev pub cancel_text : CancelWhy → List ℕ
cancel_text cancel.OverAll = codes "overall"
cancel_text cancel.Stop = codes "stop"

abbrev pub outcome_text : Outcome → List ℕ
outcome_text outcome.Success = codes "success"
outcome_text outcome.Act = codes "failed act"
outcome_text outcome.Blocked = codes "failed blocked"
outcome_text outcome.NoGoal = codes "failed nogoal"
outcome_text outcome.Replans = codes "failed replans"
outcome_text outcome.NoPlan = codes "failed noplan"
outcome_text (outcome.Spent depth) = codes "failed spent " ++ decimal depth
outcome_text outcome.TooMany = codes "failed toomany"

abbrev pub finish_text : Bool → List ℕ
finish_text true = codes " ok"
finish_text false = codes " fail"

-- a word, a request and a performer
abbrev pub on_request : Table → List ℕ → ℕ → Name → List ℕ
on_request names word r p = word ++ (decimal r ++ (codes " " ++ name_text names p))

-- an event
abbrev pub event_text : Table → Event → List ℕ
event_text names (event.Edit by edit) = codes "edit " ++ (by_text names by ++ (codes " " ++ edit_text names edit))
event_text names (event.Refused by why) = codes "refused " ++ (by_text names by ++ (codes " " ++ refusal_text names why))
event_text names (event.Ask q) = codes "ask " ++ query_text names q
event_text names (event.Run for acts) = codes "run " ++ (kind_text for ++ acts_text names acts)
event_text names event.Quit = codes "quit"
event_text names (event.Start i) = codes "start " ++ decimal i
event_text names (event.Request r i) = codes "request " ++ (decimal r ++ (codes " " ++ decimal i))
event_text names (event.Offer r p) = on_request names (codes "offer ") r p
event_text names (event.Pass r p why) = on_request names (codes "pass ") r p ++ (codes " " ++ pass_text why)
event_text names (event.Confirm r p) = on_request names (codes "confirm ") r p
event_text names (event.Reject r p) = on_request names (codes "reject ") r p
event_text names (event.Begin r p) = on_request names (codes "begin ") r p
event_text names (event.UnitWork r p) = on_request names (codes "unitwork ") r p
event_text names (event.Feedback r p percent text) = on_request names (codes "feedback ") r p ++ (codes " " ++ (decimal percent ++ (codes " " ++ text)))
event_text names (event.Finish r p ok) = on_request names (codes "finish ") r p ++ finish_text ok
event_text names (event.Unserved r) = codes "unserved " ++ decimal r
event_text names (event.End i) = codes "end " ++ decimal i
event_text names (event.Fail i why) = codes "fail " ++ (decimal i ++ (codes " " ++ fail_text why))
event_text names (event.Cancel i why) = codes "cancel " ++ (decimal i ++ (codes " " ++ cancel_text why))
event_text names (event.Stopped r p) = on_request names (codes "stopped ") r p
event_text names (event.Replan acts) = codes "replan" ++ acts_text names acts
event_text names (event.Over how) = codes "over " ++ outcome_text how

-- an entry's line, without the LF that ends it
abbrev pub entry_line : Table → Entry → List ℕ
entry_line names e = decimal e.hand ++ (codes " " ++ event_text names e.what)
