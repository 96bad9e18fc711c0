use Rattle.std.proofs.Common.{◌≡◌, ◌++◌}
use Rattle.ps_problem.specs.Namings.{lowest_with, naming_cmp, noted_with}
use Rattle.ps_problem.proofs.Ranges.{AreLeft}
use Rattle.ps_problem.proofs.problem.namings.noted_with.Given as goal

abbrev pub invariant-loop-naming : goal.invariant-loop-naming
invariant-loop-naming l =
    AreLeft naming_cmp (lowest_with l.name) l.naming-iterator × (l.found.items ++ noted_with l.name l.naming-iterator ≡ noted_with l.name l.namings.keys)
