use Rattle.std.proofs.Common.{arith}
use Rattle.ps_monitor.proofs.Lists.{at-end}
use Rattle.ps_monitor.proofs.monitor.Monitor.count.Goals as goal

pub returns-clause-none : goal.returns-clause-none
returns-clause-none c = λ act lt le. at-end c.args.self.now.watches act (omega (arith, lt, le, c.min.ensures, c.len.ensures))
