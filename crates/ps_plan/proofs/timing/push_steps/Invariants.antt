use Rattle.std.proofs.Common.{◌≡◌, ◌++◌, drop, pos, All}
use Rattle.ps_action.specs.Plans.{timed_from}
use Rattle.ps_plan.specs.Timing.{IsInRange}
use Rattle.ps_plan.proofs.timing.push_steps.Given as goal

-- the steps so far and those that are left are those of all acts
abbrev pub invariant-loop-act : goal.invariant-loop-act
invariant-loop-act l = record {
  left : l.steps.items ++ timed_from l.expert l.problem l.time (drop l.act-index l.acts) ≡ l.initial.steps.items ++ timed_from l.expert l.initial.problem (pos 0) l.acts;
  in_range : All IsInRange l.initial.steps.items → All IsInRange l.steps.items;
}
