use Rattle.std.proofs.Common.{◌≡◌, take}
use Rattle.ps_rules.specs.Lines.{acts_of}
use Rattle.ps_legal.proofs.lines.acts_of.Given as goal

abbrev pub invariant-loop-step : goal.invariant-loop-step
invariant-loop-step l = l.acts.items ≡ acts_of (take l.step-index l.steps)
