use Rattle.std.proofs.Common.{take}
use Rattle.ps_domain.specs.Places.{IsIndexOf}
use Rattle.ps_domain.proofs.index.Index.of.Given as goal

abbrev pub invariant-loop-place : goal.invariant-loop-place
invariant-loop-place g l = IsIndexOf g.T.Named.name_of (take l.place l.list) l.index
