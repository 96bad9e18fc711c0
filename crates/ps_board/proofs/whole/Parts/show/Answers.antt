use Rattle.ps_state.proofs.PlanTrees.{as-many-waits}
use Rattle.ps_board.proofs.whole.Parts.show.Goals as goal

pub tick_tree-requires : goal.tick_tree-requires
tick_tree-requires c = as-many-waits c.args.self.now.input c.args.self.now.entries.items c.args.self.now.state c.requires.kept
