use Rattle.std.proofs.Common.{◌≡◌, ◌++◌, filter}
use Rattle.ps_world.specs.Facts.{fact_cmp}
use Rattle.ps_problem.specs.Namings.{lowest_of}
use Rattle.ps_problem.proofs.Heads.{of_head}
use Rattle.ps_problem.proofs.Ranges.{AreLeft}
use Rattle.ps_problem.proofs.problem.facts.Facts.list_of.Given as goal

abbrev pub invariant-loop-fact : goal.invariant-loop-fact
invariant-loop-fact l =
    AreLeft fact_cmp (lowest_of l.head) l.fact-iterator × (l.found.items ++ filter (of_head l.head) l.fact-iterator ≡ filter (of_head l.head) l.self)
