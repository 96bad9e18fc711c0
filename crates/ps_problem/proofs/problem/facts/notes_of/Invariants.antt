use Rattle.std.proofs.Common.{map}
use Rattle.ps_problem.specs.Namings.{AreNamed}
use Rattle.ps_problem.proofs.problem.facts.notes_of.Given as goal

abbrev pub invariant-loop-fact : goal.invariant-loop-fact
invariant-loop-fact l = AreNamed (map (λ f. f.now) l.yielded) l.namings.keys
