use Rattle.std.proofs.Common.{true, false, ap, sym, nat_lt, ◌∙◌}
use Rattle.std.proofs.lemmas.Bool.{and_parts}
use Rattle.ps_rules.specs.Auctions.{begins_by, says_engaged}
use Rattle.ps_ledger.specs.Members.{at_name, has_name, speaks_of_performers}
use Rattle.ps_ledger.proofs.NamePlaces.{begun-now, engaged-now}
use Rattle.ps_ledger.proofs.members.Performers.take.Goals as goal

pub returns-in-Offer-clause-told : goal.returns-in-Offer-clause-told
returns-in-Offer-clause-told c =
    λ es e is t.
    engaged-now es e c.args.self.now c.engage.new.self c.in-Offer.by true t (λ p. ap (says_engaged p) (is ∙ c.in-Offer.is)) (λ p. ap (begins_by p) (is ∙ c.in-Offer.is)) c.engage.ensures.names c.engage.ensures.engaged c.engage.ensures.begun
    (ap (speaks_of_performers c.args.self.now) (sym c.in-Offer.is) ∙ c.requires)

pub returns-in-Reject-clause-told : goal.returns-in-Reject-clause-told
returns-in-Reject-clause-told c =
    λ es e is t.
    engaged-now es e c.args.self.now c.engage-in-Reject.new.self c.in-Reject.by false t (λ p. ap (says_engaged p) (is ∙ c.in-Reject.is)) (λ p. ap (begins_by p) (is ∙ c.in-Reject.is)) c.engage-in-Reject.ensures.names c.engage-in-Reject.ensures.engaged c.engage-in-Reject.ensures.begun
    (ap (speaks_of_performers c.args.self.now) (sym c.in-Reject.is) ∙ c.requires)

pub returns-in-Finish-clause-told : goal.returns-in-Finish-clause-told
returns-in-Finish-clause-told c =
    λ es e is t.
    engaged-now es e c.args.self.now c.engage-in-Finish.new.self c.in-Finish.by false t (λ p. ap (says_engaged p) (is ∙ c.in-Finish.is)) (λ p. ap (begins_by p) (is ∙ c.in-Finish.is)) c.engage-in-Finish.ensures.names c.engage-in-Finish.ensures.engaged c.engage-in-Finish.ensures.begun
    (ap (speaks_of_performers c.args.self.now) (sym c.in-Finish.is) ∙ c.requires)

pub returns-in-Stopped-clause-told : goal.returns-in-Stopped-clause-told
returns-in-Stopped-clause-told c =
    λ es e is t.
    engaged-now es e c.args.self.now c.engage-in-Stopped.new.self c.in-Stopped.by false t (λ p. ap (says_engaged p) (is ∙ c.in-Stopped.is)) (λ p. ap (begins_by p) (is ∙ c.in-Stopped.is)) c.engage-in-Stopped.ensures.names c.engage-in-Stopped.ensures.engaged c.engage-in-Stopped.ensures.begun
    (ap (speaks_of_performers c.args.self.now) (sym c.in-Stopped.is) ∙ c.requires)

pub returns-in-Begin-clause-told : goal.returns-in-Begin-clause-told
returns-in-Begin-clause-told c =
    λ es e is t.
    begun-now es e c.args.self.now c.begin.new.self c.in-Begin.by t (λ p. ap (says_engaged p) (is ∙ c.in-Begin.is)) (λ p. ap (begins_by p) (is ∙ c.in-Begin.is)) c.begin.ensures.names c.begin.ensures.begun c.begin.ensures.engaged
    (and_parts (has_name c.args.self.now.names.items c.args.self.now.begun.items c.in-Begin.by) (nat_lt (at_name c.args.self.now.names.items c.args.self.now.begun.items c.in-Begin.by 0) 18446744073709551615) (ap (speaks_of_performers c.args.self.now) (sym c.in-Begin.is) ∙ c.requires)).0
