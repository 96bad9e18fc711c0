use Rattle.std.proofs.Common.{ap, ◌∙◌}
use Rattle.std.specs.Option.{option_or}
use Rattle.ps_ledger.proofs.Standing.{ends-now}
use Rattle.ps_ledger.proofs.ends.Ends.take.Goals as goal

pub returns : goal.returns
returns c = λ es e is t.
    ends-now es e c.args.event.now c.args.self.now _ t is (c.first_outcome-self.ensures ∙ ap (λ o. option_or o c.args.self.now.last) c.outcome_of.ensures)
