use Rattle.std.proofs.Common.{ap, ◌∙◌}
use Rattle.ps_ledger.specs.Offers.{standing_next}
use Rattle.ps_ledger.proofs.Standing.{offer-made, offer-struck}
use Rattle.ps_ledger.proofs.offers.Offers.take.Goals as goal

pub returns-in-Offer-clause-told : goal.returns-in-Offer-clause-told
returns-in-Offer-clause-told c = λ es e is t. offer-made es e c.args.self.now c.push.new.self c.in-Offer.r c.in-Offer.by t (is ∙ c.in-Offer.is) c.push.ensures.all

pub returns-in-Reject-clause-told : goal.returns-in-Reject-clause-told
returns-in-Reject-clause-told c = λ es e is t.
    offer-struck es e c.args.self.now c.strike.new.self c.in-Reject.r c.in-Reject.by t (λ r ps. ap (standing_next r ps) (is ∙ c.in-Reject.is)) c.strike.ensures.all

pub returns-in-Confirm-clause-told : goal.returns-in-Confirm-clause-told
returns-in-Confirm-clause-told c = λ es e is t.
    offer-struck es e c.args.self.now c.strike-in-Confirm.new.self c.in-Confirm.r c.in-Confirm.by t (λ r ps. ap (standing_next r ps) (is ∙ c.in-Confirm.is)) c.strike-in-Confirm.ensures.all
