-- What stands in an entry that has a line: numbers that their types hold, names of a table with so many names, and texts in form.
use Rattle.std.specs.Prelude.{ℕ, ◌^◌, Bool, true, false, ◌&&◌, nat_eq, nat_le, nat_lt, List, length}
use Rattle.std.specs.List.{list_all}
use Rattle.ps_world.specs.declared.names.Name.{Name}
use Rattle.ps_world.specs.declared.edits.EditRefusal.{EditRefusal}
use Rattle.ps_world.specs.declared.edits.EditRefusal.TheVariants as edit
use Rattle.ps_action.specs.declared.acts.Act.{Act}
use Rattle.ps_action.specs.declared.refusals.EffectRefusal.{EffectRefusal}
use Rattle.ps_action.specs.declared.refusals.EffectRefusal.TheVariants as effect
use Rattle.ps_action.specs.declared.refusals.GroundRefusal.{GroundRefusal}
use Rattle.ps_action.specs.declared.refusals.GroundRefusal.TheVariants as ground
use Rattle.ps_action.specs.declared.refusals.PlanRefusal.{PlanRefusal}
use Rattle.ps_action.specs.declared.refusals.PlanRefusal.TheVariants as plan
use Rattle.ps_action.specs.declared.refusals.PlanTextRefusal.{PlanTextRefusal}
use Rattle.ps_action.specs.declared.refusals.PlanTextRefusal.TheVariants as plantext
use Rattle.ps_machine.specs.Tables.{is_note}
use Rattle.ps_machine.specs.declared.inputs.LineCause.{LineCause}
use Rattle.ps_machine.specs.declared.inputs.LineCause.TheVariants as line
use Rattle.ps_machine.specs.declared.journal.By.{By}
use Rattle.ps_machine.specs.declared.journal.By.TheVariants as by
use Rattle.ps_machine.specs.declared.journal.Refusal.{Refusal}
use Rattle.ps_machine.specs.declared.journal.Refusal.TheVariants as refusal
use Rattle.ps_machine.specs.declared.journal.RunKind.{RunKind}
use Rattle.ps_machine.specs.declared.journal.RunKind.TheVariants as kind
use Rattle.ps_machine.specs.declared.journal.Outcome.{Outcome}
use Rattle.ps_machine.specs.declared.journal.Outcome.TheVariants as outcome
use Rattle.ps_machine.specs.declared.journal.Event.{Event}
use Rattle.ps_machine.specs.declared.journal.Event.TheVariants as event
use Rattle.ps_machine.specs.declared.journal.Entry.{Entry}

-- a number of 8, of 32 and of 64 bits
abbrev pub is_byte : ℕ → Bool
is_byte n = nat_lt n (2 ^ 8)

abbrev pub is_short : ℕ → Bool
is_short n = nat_lt n (2 ^ 32)

abbrev pub is_long : ℕ → Bool
is_long n = nat_lt n (2 ^ 64)

-- a name of the table
abbrev pub is_known : ℕ → Name → Bool
is_known count n = nat_lt n.0 count

-- ---- causes

abbrev pub is_line_cause : LineCause → Bool
is_line_cause (line.Lex at) = is_long at
is_line_cause (line.Number at) = is_long at
is_line_cause (line.Shape at) = is_long at
is_line_cause cause = true

abbrev pub is_edit_cause : ℕ → EditRefusal → Bool
is_edit_cause count (edit.NoInstance n) = is_known count n
is_edit_cause count (edit.Arity want got) = is_long want && is_long got
is_edit_cause count (edit.WrongType at) = is_long at
is_edit_cause count r = true

abbrev pub is_ground_cause : ℕ → GroundRefusal → Bool
is_ground_cause count ground.NoAction = true
is_ground_cause count (ground.Arity want got) = is_long want && is_long got
is_ground_cause count (ground.NoInstance n) = is_known count n
is_ground_cause count (ground.WrongType at) = is_long at

abbrev pub is_effect_cause : EffectRefusal → Bool
is_effect_cause (effect.Clash at) = is_long at
is_effect_cause (effect.Undefined at) = is_long at
is_effect_cause (effect.Range at) = is_long at

abbrev pub is_plan_cause : ℕ → PlanRefusal → Bool
is_plan_cause count plan.NoGoal = true
is_plan_cause count (plan.Ground at r) = is_short at && is_ground_cause count r
is_plan_cause count (plan.StartFalse at) = is_short at
is_plan_cause count (plan.StartEffect at r) = is_short at && is_effect_cause r
is_plan_cause count (plan.OverAllFalse at) = is_short at
is_plan_cause count (plan.EndFalse at) = is_short at
is_plan_cause count (plan.EndEffect at r) = is_short at && is_effect_cause r
is_plan_cause count plan.GoalFalse = true

abbrev pub is_text_cause : PlanTextRefusal → Bool
is_text_cause (plantext.Line n) = is_long n
is_text_cause (plantext.Long n) = is_long n

-- of the causes that can't ground an act, the one that no cause of an edit prints like
abbrev pub is_no_action : GroundRefusal → Bool
is_no_action ground.NoAction = true
is_no_action r = false

-- a cause that stands first among those that print as it does
abbrev pub is_cause : ℕ → Refusal → Bool
is_cause count (refusal.Line cause) = is_line_cause cause
is_cause count (refusal.Edit r) = is_edit_cause count r
is_cause count (refusal.Ground r) = is_no_action r
is_cause count (refusal.Plan r) = is_plan_cause count r
is_cause count (refusal.PlanText r) = is_text_cause r
is_cause count refusal.NoGoal = false
is_cause count refusal.NoPlan = true
is_cause count (refusal.Spent depth) = is_short depth
is_cause count refusal.TooMany = true
is_cause count refusal.NoRun = true
is_cause count refusal.NoPredicate = false
is_cause count refusal.NoAction = false

-- ---- events

abbrev pub is_by : ℕ → By → Bool
is_by count (by.Terminal n) = is_short n
is_by count (by.Performer r p) = is_long r && is_known count p
is_by count (by.Observer o) = is_known count o

-- an act has at most 6 arguments
abbrev pub is_act : ℕ → Act → Bool
is_act count act = (is_known count act.action && list_all (is_known count) act.args) && nat_le (length act.args) 6

-- a run of an action has one act; another run may have any number
abbrev pub may_run : RunKind → List Act → Bool
may_run kind.Action acts = nat_eq (length acts) 1
may_run for acts = true

abbrev pub is_outcome : Outcome → Bool
is_outcome (outcome.Spent depth) = is_short depth
is_outcome how = true

-- a request and a performer
abbrev pub is_on_request : ℕ → ℕ → Name → Bool
is_on_request count r p = is_long r && is_known count p

-- an event; of what a terminal line says in it nothing is said here
abbrev pub is_event : ℕ → Event → Bool
is_event count (event.Edit who change) = is_by count who
is_event count (event.Refused who why) = is_by count who && is_cause count why
is_event count (event.Ask q) = true
is_event count (event.Run for acts) = may_run for acts && list_all (is_act count) acts
is_event count event.Quit = true
is_event count (event.Start act) = is_short act
is_event count (event.Request r act) = is_long r && is_short act
is_event count (event.Offer r p) = is_on_request count r p
is_event count (event.Pass r p why) = is_on_request count r p
is_event count (event.Confirm r p) = is_on_request count r p
is_event count (event.Reject r p) = is_on_request count r p
is_event count (event.Begin r p) = is_on_request count r p
is_event count (event.UnitWork r p) = is_on_request count r p
is_event count (event.Feedback r p percent text) = is_on_request count r p && (nat_le percent 100 && is_note text)
is_event count (event.Finish r p ok) = is_on_request count r p
is_event count (event.Unserved r) = is_long r
is_event count (event.End act) = is_short act
is_event count (event.Fail act why) = is_short act
is_event count (event.Cancel act why) = is_short act
is_event count (event.Stopped r p) = is_on_request count r p
is_event count (event.Replan acts) = list_all (is_act count) acts
is_event count (event.Over how) = is_outcome how

-- an entry
abbrev pub is_entry : ℕ → Entry → Bool
is_entry count e = is_byte e.hand && is_event count e.what
