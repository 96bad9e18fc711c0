use Rattle.std.proofs.Common.{take}
use Rattle.ps_arcs.specs.Indexed.{IsIndexed}
use Rattle.ps_arcs.proofs.index.enter_actions.Given as goal

abbrev pub invariant-loop-place : goal.invariant-loop-place
invariant-loop-place l = IsIndexed (take l.place l.actions) l.readers l.changers
