-- What is said of a plan.
use Rattle.std.specs.Prelude.{ℕ, Option, Some, None, List, ◌++◌, codes, decimal}
use Rattle.ps_world.specs.Names.{Table}
use Rattle.ps_world.specs.Lines.{line_end}
use Rattle.ps_action.specs.declared.refusals.PlanRefusal.{PlanRefusal}
use Rattle.ps_action.specs.declared.refusals.PlanRefusal.TheVariants as plan
use Rattle.ps_action.specs.declared.refusals.PlanTextRefusal.{PlanTextRefusal}
use Rattle.ps_action.specs.declared.refusals.PlanTextRefusal.TheVariants as text
use Rattle.ps_machine.specs.Texts.{plan_cause_text}
use Rattle.ps_validate.specs.declared.verdicts.Invalid.{Invalid}
use Rattle.ps_validate.specs.declared.verdicts.Invalid.TheVariants.{Text, Plan}

-- 0 where nothing is wrong, else 7
abbrev pub verdict_status : Option Invalid → ℕ
verdict_status None = 0
verdict_status (Some wrong) = 7

-- why a plan isn't good; of a step with its number and the cause that the journal tells of it
abbrev pub plan_text : Table → PlanRefusal → List ℕ
plan_text names plan.NoGoal = codes "no goal"
plan_text names plan.GoalFalse = codes "goal false"
plan_text names r = codes "step " ++ plan_cause_text names r

-- the line of a plan's text that is at fault
abbrev pub fault_text : PlanTextRefusal → List ℕ
fault_text (text.Line n) = codes "plan line " ++ decimal n
fault_text (text.Long n) = codes "plan line " ++ decimal n

-- what is wrong
abbrev pub wrong_text : Table → Invalid → List ℕ
wrong_text names (Text r) = fault_text r
wrong_text names (Plan r) = plan_text names r

-- the line that a plan is answered with
abbrev pub verdict_line : Table → Option Invalid → List ℕ
verdict_line names None = codes "valid" ++ line_end
verdict_line names (Some wrong) = wrong_text names wrong ++ line_end
