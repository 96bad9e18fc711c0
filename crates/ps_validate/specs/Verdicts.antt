-- What a script leads to, and what a plan is worth there.
use Rattle.std.specs.Prelude.{ℕ, Option, Some, None, option_map, List, [], map, fold}
use Rattle.std.specs.Result.{result_err, result_unwrap_or}
use Rattle.ps_world.specs.Names.{Table}
use Rattle.ps_world.specs.Knowledge.{edited, opening}
use Rattle.ps_world.specs.declared.conditions.Cond.{Cond}
use Rattle.ps_world.specs.declared.domains.Domain.{Domain}
use Rattle.ps_world.specs.declared.known.Knowledge.{Knowledge}
use Rattle.ps_machine.specs.declared.inputs.Command.TheVariants as command
use Rattle.ps_machine.specs.declared.inputs.Line.{Line}
use Rattle.ps_machine.specs.declared.inputs.Line.TheVariants.{Good, Bad}
use Rattle.ps_action.specs.Plans.{judged}
use Rattle.ps_action.specs.declared.acts.Act.{Act}
use Rattle.ps_action.specs.declared.acts.PlanStep.{PlanStep}
use Rattle.ps_action.specs.declared.refusals.PlanRefusal.TheVariants as plan
use Rattle.ps_plan.specs.PlanText.{plan_fault, planned, said_by}
use Rattle.ps_action.specs.declared.refusals.PlanTextRefusal.{PlanTextRefusal}
use Rattle.ps_validate.specs.declared.verdicts.Invalid.{Invalid}
use Rattle.ps_validate.specs.declared.verdicts.Invalid.TheVariants.{Text, Plan}

-- ---- the knowledge that a script leads to

-- the knowledge after a line: a refused edit changes nothing, and no other line does
abbrev pub after_line : Domain → Knowledge → Line → Knowledge
after_line d k (Good (command.Edit edit)) = result_unwrap_or (edited d k edit) k
after_line d k line = k

-- the knowledge after all edits of a script
abbrev pub known_after : Domain → List Line → Knowledge
known_after d lines = fold (after_line d) (opening d) lines

-- ---- what a plan is worth

-- the acts of steps
abbrev pub acts_of : List PlanStep → List Act
acts_of steps = map (λ step. step.act) steps

-- what is wrong with a plan that was read, if something is
abbrev pub plan_wrong : Domain → Knowledge → List PlanStep → Option Invalid
plan_wrong d k steps = option_map Plan (result_err (judged d k (acts_of steps)))

-- what is wrong with a plan's text, if something is, where there is a goal
abbrev pub text_wrong : Domain → Knowledge → Table → List ℕ → Option PlanTextRefusal → Option Invalid × Table
text_wrong d k table bytes (Some fault) = (Some (Text fault), table)
text_wrong d k table bytes None = let read = planned table [] (said_by bytes) in (plan_wrong d k read.0, read.1)

-- What is wrong with the text of a plan in this knowledge, if something is, and the table of names after it: there is no goal,
-- the text is none of a plan, or the plan isn't good.
abbrev pub verdict_on : Domain → Knowledge → Table → List ℕ → Option Cond → Option Invalid × Table
verdict_on d k table bytes None = (Some (Plan plan.NoGoal), table)
verdict_on d k table bytes (Some goal) = text_wrong d k table bytes (plan_fault bytes)

unfoldable pub verdict : Domain → Knowledge → Table → List ℕ → Option Invalid × Table
verdict d k table bytes = verdict_on d k table bytes k.goal
