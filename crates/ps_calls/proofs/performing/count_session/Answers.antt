use Rattle.std.proofs.lemmas.Result.{err_from_is_err_and}
use Rattle.std.proofs.Common.{subst}
use Rattle.ps_calls.specs.Headline.{WritesWithStatus}
use Rattle.ps_gen.specs.Summary.{summary_text}
use Rattle.ps_rules.specs.History.{status_of}
use Rattle.ps_calls.proofs.Performed.{counted-journal, unmade}
use Rattle.ps_calls.proofs.performing.count_session.Goals as goal

pub returns-in_err-run_unwritten : goal.returns-in_err-run_unwritten
returns-in_err-run_unwritten g c =
    let p = err_from_is_err_and c.from_residual.result c.from_residual.ensures.1 in
    rw (p.1, p.2) (unmade c.args.board.now.input c.args.carts (g.O.Sink.shown c.args.out.now))

pub returns : goal.returns
returns g c =
    counted-journal c.args.board.now.input c.args.carts c.run_unwritten.new.board.entries (g.O.Sink.shown c.args.out.now) (g.O.Sink.shown c.write_summary.new.out)
    c.write_summary.result c.in_ok-run_unwritten.ensures
    (subst (λ es. WritesWithStatus (summary_text c.args.carts es) (status_of es) (g.O.Sink.shown c.args.out.now) (g.O.Sink.shown c.write_summary.new.out) c.write_summary.result)
    c.entries.ensures.entries c.write_summary.ensures)
