use Rattle.std.proofs.Common.{◌≡◌, ◌++◌, take}
use Rattle.ps_undo.specs.Changes.{kinds_at}
use Rattle.ps_undo.proofs.changes.push_kinds.Given as goal

abbrev pub invariant-loop-name : goal.invariant-loop-name
invariant-loop-name l = l.out ≡ l.initial.out ++ kinds_at l.problem.instances (take l.name-index l.names)
