use Rattle.std.proofs.Common.{◌≡◌, ◌++◌, drop}
use Rattle.std.specs.BTreeSet.{insert_key}
use Rattle.ps_world.specs.Facts.{fact_cmp}
use Rattle.ps_plain.proofs.lists.with_fact.Given as goal

abbrev pub invariant-loop-i : goal.invariant-loop-i
invariant-loop-i l = l.all.items ++ insert_key fact_cmp (drop l.i l.facts) l.fact ≡ insert_key fact_cmp l.facts l.fact
