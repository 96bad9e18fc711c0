use Rattle.std.proofs.Common.{arith, rules}
use Rattle.ps_lists.proofs.NestedLists.{at-here, at-past}
use Rattle.ps_lists.proofs.places.at.Goals as goal

pub returns-then-i-trees : goal.returns-then-i-trees
returns-then-i-trees c = at-here c.args.trees.now c.args.i _ (omega arith) (search rules)

pub returns-else-i-trees : goal.returns-else-i-trees
returns-else-i-trees c = at-past c.args.trees.now c.args.i (omega arith)
