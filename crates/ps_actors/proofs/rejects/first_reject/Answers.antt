use Rattle.std.proofs.Common.{Some, ap, subst, ◌∙◌}
use Rattle.ps_actors.specs.Ticks.{first_of, IsEarliest}
use Rattle.ps_actors.proofs.Rejecting.{reject-none, reject-some}
use Rattle.ps_actors.proofs.rejects.first_reject.Goals as goal

pub returns-in-Some-clause-first : goal.returns-in-Some-clause-first
returns-in-Some-clause-first c = λ i es o.
    ap Some c.of.ensures ∙ reject-some i es c.args.state.now c.in-Some.offer o.history o.kept
    (subst (IsEarliest (first_of i es c.args.state.now.ledger.offers.all.items)) c.in-Some.is (c.first_rejected.ensures i es o))

pub returns-in-None-clause-first : goal.returns-in-None-clause-first
returns-in-None-clause-first c = λ i es o.
    reject-none i es c.args.state.now o.history o.kept (subst (IsEarliest (first_of i es c.args.state.now.ledger.offers.all.items)) c.in-None.is (c.first_rejected.ensures i es o))
