use Rattle.std.proofs.Common.{subst}
use Rattle.ps_shows.specs.Pictures.{fault_line}
use Rattle.ps_shows.specs.Telling.{Informs}
use Rattle.ps_shows.proofs.showing.report.Goals as goal

pub returns : goal.returns
returns g c =
    let line = fault_line c.args.fault c.args.file.now in
    subst (λ done. Informs line done (g.E.Sink.shown c.args.err.now) (g.E.Sink.shown c.inform.new.err) c.inform.result) c.fault_status.ensures
    (c.inform.ensures line c.fault_line.ensures)
