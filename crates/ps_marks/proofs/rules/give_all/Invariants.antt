use Rattle.std.proofs.Common.{take}
use Rattle.ps_marks.specs.Making.{made_by}
use Rattle.ps_marks.specs.Rules.{TakesPlaces}
use Rattle.ps_marks.proofs.rules.give_all.Given as goal

abbrev pub invariant-loop-add : goal.invariant-loop-add
invariant-loop-add l = TakesPlaces l.places (made_by l.expert l.problem (take l.add-index l.adds)) l.fn.gives.items l.gives.items
