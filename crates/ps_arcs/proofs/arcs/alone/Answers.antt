use Rattle.std.proofs.Common.{sym, ◌∙◌}
use Rattle.std.proofs.lemmas.Result.{IfOk-weaker}
use Rattle.ps_arcs.specs.Commuting.{EveryOrderGoesWell}
use Rattle.ps_arcs.proofs.Commuting.{all_listed}
use Rattle.ps_arcs.proofs.Listed.{none_alone}
use Rattle.ps_arcs.proofs.arcs.alone.Goals as goal

pub returns-clause-orders : goal.returns-clause-orders
returns-clause-orders c =
    let gs = c.args.actions.now in
    IfOk-weaker c.new.result _ (EveryOrderGoesWell gs) (λ arcs made. all_listed gs arcs (made.1 ∙ sym (none_alone gs c.requires))) c.new.ensures
