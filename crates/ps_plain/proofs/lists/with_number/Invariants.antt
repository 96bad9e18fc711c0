use Rattle.std.proofs.Common.{◌≡◌, ◌++◌, drop}
use Rattle.std.specs.BTreeMap.{insert_entry}
use Rattle.ps_world.specs.Facts.{fact_cmp}
use Rattle.ps_plain.proofs.lists.with_number.Given as goal

abbrev pub invariant-loop-i : goal.invariant-loop-i
invariant-loop-i l = l.all.items ++ insert_entry fact_cmp (drop l.i l.values) l.fact l.number ≡ insert_entry fact_cmp l.values l.fact l.number
