use Rattle.std.proofs.Common.{refl}
use Rattle.ps_calls.proofs.Ends.{ended, refused}
use Rattle.ps_calls.proofs.calls.plansys.Goals as goal

pub returns-in-Ok : goal.returns-in-Ok
returns-in-Ok g c = ended c.in-Ok.work c.do_work.result c.in-Ok.ensures c.do_work.ensures

pub returns-in-Err : goal.returns-in-Err
returns-in-Err g c = refused c.in-Err.why c.refuse.result c.in-Err.ensures (refl {a = g.O.Sink.shown c.args.out.now}) c.refuse.ensures
