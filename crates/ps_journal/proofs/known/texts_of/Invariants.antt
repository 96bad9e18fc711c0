use Rattle.std.proofs.Common.{◌≡◌, map, take}
use Rattle.ps_journal.proofs.known.texts_of.Given as goal

abbrev pub invariant-loop-value : goal.invariant-loop-value
invariant-loop-value g l = l.lines.items ≡ map (g.T.Printed.text l.names) (take l.value-index l.values)
