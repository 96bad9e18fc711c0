use Rattle.std.proofs.Common.{length, subst, sym, ap, ◌∙◌}
use Rattle.ps_hub.specs.Belts.{DeskView}
use Rattle.ps_hub.specs.Passes.{Counts}
use Rattle.ps_hub.specs.Reports.{on}
use Rattle.ps_hub.proofs.Numbering.{none_later}
use Rattle.ps_hub.proofs.desk.Desk.next_number.Goals as goal

pub returns-then-r-self : goal.returns-then-r-self
returns-then-r-self c =
    let counts : Counts c.self.inside.last c.self.inside.count c.args.self.now.sent = subst (λ (d : DeskView). Counts c.self.inside.last c.self.inside.count d.sent) c.self.view_is c.self.invariant.counts in
    counts.count_is ∙ ap (λ r. length (on r c.args.self.now.sent)) (sym c.if-r-self.true)

pub returns-else-r-self : goal.returns-else-r-self
returns-else-r-self c =
    let counts : Counts c.self.inside.last c.self.inside.count c.args.self.now.sent = subst (λ (d : DeskView). Counts c.self.inside.last c.self.inside.count d.sent) c.self.view_is c.self.invariant.counts in
    sym (none_later c.self.inside.last c.self.inside.count c.args.r c.args.self.now.sent counts c.requires.0 c.if-r-self.false)
