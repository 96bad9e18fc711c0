use Rattle.std.proofs.Common.{◌≡◌, ◌++◌, drop}
use Rattle.std.specs.BTreeMap.{insert_entry}
use Rattle.ps_world.specs.Names.{name_cmp}
use Rattle.ps_plain.proofs.lists.with_entry.Given as goal

abbrev pub invariant-loop-i : goal.invariant-loop-i
invariant-loop-i l = l.all.items ++ insert_entry name_cmp (drop l.i l.instances) l.name l.kind ≡ insert_entry name_cmp l.instances l.name l.kind
