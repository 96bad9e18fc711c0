use Rattle.std.proofs.Common.{refl}
use Rattle.ps_state.proofs.state.State.pass_reason.Goals as goal

pub returns : goal.returns
returns c = λ i es s. c.pass_reason.ensures es c.args.performer.now s.told refl (c.matches_request-matches.ensures i es s)
