use Rattle.std.proofs.Common.{◌≡◌, ◌++◌, take}
use Rattle.ps_plan.specs.PlanText.{plan_text}
use Rattle.ps_planned.proofs.telling.push_steps.Given as goal

abbrev pub invariant-loop-step : goal.invariant-loop-step
invariant-loop-step l = l.text.items ≡ l.initial.text.items ++ plan_text l.names (take l.step-index l.steps)
