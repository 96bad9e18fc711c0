use Rattle.std.proofs.Common.{arith}
use Rattle.ps_lists.proofs.NestedLists.{item-rank}
use Rattle.ps_script.proofs.scopes.+stray.Goals as goal

pub strays-stray-requires : goal.strays-stray-requires
strays-stray-requires t c =
    (omega (arith, c.decreases, item-rank c.args.trees.now c.loop-tree.tree-index c.tree-item.result (omega arith) c.tree-item.is), tt)
