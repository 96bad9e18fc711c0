use Rattle.ps_state.proofs.Awaiting.{takes-cancel}
use Rattle.ps_state.proofs.state.State.cancel.Goals as goal

pub returns-clause-told : goal.returns-clause-told
returns-clause-told c = λ i es hand why s. takes-cancel i es hand c.args.act why c.args.self.now _ s c.cancel.ensures.told c.cancel.ensures.members
