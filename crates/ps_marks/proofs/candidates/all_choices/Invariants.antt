use Rattle.std.proofs.Common.{◌≡◌, take}
use Rattle.ps_marks.specs.Candidates.{all_choices}
use Rattle.ps_marks.proofs.candidates.all_choices.Given as goal

abbrev pub invariant-loop-i : goal.invariant-loop-i
invariant-loop-i l = l.all.items ≡ all_choices l.expert l.problem (take l.i l.params) (take l.i l.holes)
