use Rattle.std.proofs.Common.{◌≡◌, take}
use Rattle.ps_marks.specs.Candidates.{unknown}
use Rattle.ps_marks.proofs.marks.unknown_of.Given as goal

abbrev pub invariant-loop-fact : goal.invariant-loop-fact
invariant-loop-fact l = l.some.items ≡ unknown l.problem (take l.fact-index l.facts)
