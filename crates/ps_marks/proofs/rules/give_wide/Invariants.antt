use Rattle.ps_marks.specs.Making.{facts_made}
use Rattle.ps_marks.proofs.Placed.{TakesBefore}
use Rattle.ps_marks.proofs.rules.give_wide.Given as goal

abbrev pub invariant-loop-place : goal.invariant-loop-place
invariant-loop-place l = TakesBefore l.places (facts_made l.expert l.problem l.add) l.place l.fn.gives.items l.gives.items
