use Rattle.std.proofs.Common.{map}
use Rattle.std.specs.Map.{keys_of}
use Rattle.std.specs.Map.Iter.{deref_pair}
use Rattle.ps_problem.specs.Namings.{AreNamed}
use Rattle.ps_problem.proofs.problem.values.notes_of.Given as goal

abbrev pub invariant-loop-fact : goal.invariant-loop-fact
invariant-loop-fact l = AreNamed (keys_of (map deref_pair l.yielded)) l.namings.keys
