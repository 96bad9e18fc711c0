use Rattle.std.proofs.Common.{[], take}
use Rattle.ps_marks.specs.Candidates.{Collects, made_in}
use Rattle.ps_marks.proofs.candidates.found_by.Given as goal

abbrev pub invariant-loop-i : goal.invariant-loop-i
invariant-loop-i l = Collects l.problem (made_in l.expert l.problem (take l.i l.actions)) [] l.found.keys
