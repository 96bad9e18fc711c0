use Rattle.std.proofs.Common.{◌≡◌, drop}
use Rattle.ps_rules.specs.Lines.{acts_of}
use Rattle.ps_rules.specs.Same.{same_acts}
use Rattle.ps_legal.proofs.same.are_acts_of.Given as goal

abbrev pub invariant-loop-at : goal.invariant-loop-at
invariant-loop-at l = same_acts l.acts (acts_of l.steps) ≡ same_acts (drop l.at l.acts) (acts_of (drop l.at l.steps))
