use Rattle.std.proofs.Common.{subst}
use Rattle.ps_inputs.specs.Faults.{fault_line}
use Rattle.ps_calls.specs.Headline.{Informs}
use Rattle.ps_calls.proofs.reporting.report.Goals as goal

pub returns : goal.returns
returns g c =
    let line = fault_line c.args.fault.now in
    subst (λ done. Informs line done (g.E.Sink.shown c.args.err.now) (g.E.Sink.shown c.inform.new.err) c.inform.result) c.status.ensures
    (c.inform.ensures line c.fault_line.ensures)
