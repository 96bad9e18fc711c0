use Rattle.std.proofs.Common.{sym, subst}
use Rattle.ps_ledger.specs.Ledger.{HasRoom, Speaks}
use Rattle.ps_state.proofs.Awaiting.{takes}
use Rattle.ps_state.proofs.state.State.take.Goals as goal

pub take-requires-clause-room : goal.take-requires-clause-room
take-requires-clause-room c = subst (HasRoom c.args.event.now) (sym c.in_ok-go_on.ensures.ok.base.ledger) c.requires.room

pub take-requires-clause-speaks : goal.take-requires-clause-speaks
take-requires-clause-speaks c = subst (Speaks c.args.event.now) (sym c.in_ok-go_on.ensures.ok.base.ledger) c.requires.speaks

pub returns : goal.returns
returns c = λ i es e is a.
    takes i es e c.args.event.now c.args.self.now c.go_on.new.self c.take.new.self is a c.requires.plan c.in_ok-go_on.ensures.ok c.take.ensures.told c.take.ensures.members
