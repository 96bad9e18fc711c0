use Rattle.std.proofs.Common.{◌≡◌, drop}
use Rattle.ps_action.specs.Plans.{after_steps}
use Rattle.ps_plan.proofs.judging.take_steps.Given as goal

-- the steps that are left, counted on, come to what all of them come to
abbrev pub invariant-loop-act : goal.invariant-loop-act
invariant-loop-act l = record {
  counted : l.at ≡ l.act-index;
  left : after_steps l.expert l.problem l.at (drop l.act-index l.acts) ≡ after_steps l.expert l.initial.problem 0 l.acts;
}
