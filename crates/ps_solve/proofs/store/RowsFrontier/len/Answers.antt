use Rattle.std.proofs.Common.{sym, ◌∙◌}
use Rattle.ps_solve.proofs.Storing.{count}
use Rattle.ps_solve.proofs.store.RowsFrontier.len.Goals as goal

pub returns : goal.returns
returns c = c.len.ensures ∙ sym (count c.args.self.now.task.now c.args.self.now.reached)
