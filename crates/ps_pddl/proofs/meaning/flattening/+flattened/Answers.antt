use Rattle.std.proofs.Common.{arith}
use Rattle.ps_lists.proofs.NestedLists.{item-rank}
use Rattle.ps_pddl.proofs.meaning.flattening.+flattened.Goals as goal

pub all_flattened-flattened-requires : goal.all_flattened-flattened-requires
all_flattened-flattened-requires g t c κs within =
    (omega (arith, c.decreases, item-rank c.args.trees.now c.loop-tree.tree-index c.tree-item.result (omega arith) c.tree-item.is), within)
