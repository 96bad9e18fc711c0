use Rattle.std.proofs.Common.{arith}
use Rattle.ps_lists.proofs.NestedLists.{item-rank}
use Rattle.ps_pddl.proofs.meaning.changes.+timed.Goals as goal

pub all_timed-timed-requires : goal.all_timed-timed-requires
all_timed-timed-requires t c =
    omega (arith, c.decreases, item-rank c.args.trees.now c.loop-tree.tree-index c.tree-item.result (omega arith) c.tree-item.is)
