use Rattle.std.proofs.Common.{◌≡◌, drop}
use Rattle.ps_marks.specs.Closures.{is_in}
use Rattle.ps_marks.specs.Making.{made_by}
use Rattle.ps_marks.proofs.making.one_can_make.Given as goal

abbrev pub invariant-loop-add : goal.invariant-loop-add
invariant-loop-add l = is_in (made_by l.expert l.problem (drop l.add-index l.adds)) l.fact ≡ is_in (made_by l.expert l.problem l.adds) l.fact
