use Rattle.std.proofs.Common.{◌≡◌, ◌++◌, take}
use Rattle.ps_undo.specs.Changes.{known_at}
use Rattle.ps_undo.proofs.changes.push_known.Given as goal

abbrev pub invariant-loop-fact : goal.invariant-loop-fact
invariant-loop-fact l = l.out ≡ l.initial.out ++ known_at l.problem.facts (take l.fact-index l.facts)
