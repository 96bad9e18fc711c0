use Rattle.std.proofs.Common.{◌≡◌, ◌++◌, drop}
use Rattle.std.specs.List.{flat_map}
use Rattle.ps_journal.proofs.printed.push_all.Given as goal

abbrev pub invariant-loop-value : goal.invariant-loop-value
invariant-loop-value g l =
    l.out.items ++ flat_map (g.T.Printed.text l.names) (drop l.value-index l.values) ≡ l.initial.out.items ++ flat_map (g.T.Printed.text l.names) l.values
