use Rattle.std.proofs.Common.{◌≡◌, ◌++◌, take}
use Rattle.std.specs.Map.{keys_of}
use Rattle.ps_undo.proofs.changes.push_keys.Given as goal

abbrev pub invariant-loop-term : goal.invariant-loop-term
invariant-loop-term l = l.out ≡ l.initial.out ++ keys_of (take l.term-index l.values)
