use Rattle.ps_lists.proofs.NestedLists.{length-count}
use Rattle.ps_lists.proofs.places.count.Goals as goal

pub returns-clause-count : goal.returns-clause-count
returns-clause-count c = length-count c.args.trees.now
