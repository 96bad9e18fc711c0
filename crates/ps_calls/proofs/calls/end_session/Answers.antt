use Rattle.ps_inputs.specs.declared.works.Work.TheVariants.{Session as ASession}
use Rattle.ps_calls.proofs.Ends.{finished}
use Rattle.ps_calls.proofs.calls.end_session.Goals as goal

pub returns-else-session : goal.returns-else-session
returns-else-session g c = finished (ASession c.args.session) c.do_session.result c.finish.result _ _ _ _ c.if-session.false c.do_session.ensures c.finish.ensures
