use Rattle.std.proofs.Common.{◌≡◌, drop}
use Rattle.ps_expand.specs.Joining.{value_after}
use Rattle.ps_expand.proofs.during.value_after.Given as goal

abbrev pub invariant-loop-there : goal.invariant-loop-there
invariant-loop-there l = value_after l.value (drop l.there-index l.ready) l.term ≡ value_after l.fn.before l.ready l.term
