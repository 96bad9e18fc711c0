use Rattle.std.proofs.Common.{◌≡◌, ◌++◌, take}
use Rattle.ps_undo.proofs.changes.push_all.Given as goal

abbrev pub invariant-loop-fact : goal.invariant-loop-fact
invariant-loop-fact l = l.out ≡ l.initial.out ++ take l.fact-index l.facts
