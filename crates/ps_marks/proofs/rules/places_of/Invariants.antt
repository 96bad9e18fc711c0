use Rattle.std.proofs.Common.{take}
use Rattle.ps_marks.specs.Rules.{ArePlaces}
use Rattle.ps_marks.proofs.rules.places_of.Given as goal

abbrev pub invariant-loop-fact : goal.invariant-loop-fact
invariant-loop-fact l = ArePlaces l.places l.at.items (take l.fact-index l.facts)
