use Rattle.std.proofs.Common.{take}
use Rattle.ps_marks.specs.Candidates.{Collects}
use Rattle.ps_marks.specs.Making.{made_by}
use Rattle.ps_marks.proofs.candidates.collect_all.Given as goal

abbrev pub invariant-loop-add : goal.invariant-loop-add
invariant-loop-add l = Collects l.problem (made_by l.expert l.problem (take l.add-index l.adds)) l.fn.found.keys l.found.keys
