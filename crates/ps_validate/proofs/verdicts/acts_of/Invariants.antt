use Rattle.std.proofs.Common.{◌≡◌, take}
use Rattle.ps_validate.specs.Verdicts.{acts_of}
use Rattle.ps_validate.proofs.verdicts.acts_of.Given as goal

abbrev pub invariant-loop-step : goal.invariant-loop-step
invariant-loop-step l = l.acts.items ≡ acts_of (take l.step-index l.steps)
