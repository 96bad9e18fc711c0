use Rattle.std.proofs.Common.{◌≡◌, ◌++◌, take}
use Rattle.ps_undo.specs.Changes.{values_at}
use Rattle.ps_undo.proofs.changes.push_values.Given as goal

abbrev pub invariant-loop-term : goal.invariant-loop-term
invariant-loop-term l = l.out ≡ l.initial.out ++ values_at l.problem.values (take l.term-index l.terms)
