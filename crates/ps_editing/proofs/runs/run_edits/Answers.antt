use Rattle.std.proofs.lemmas.Result.{err_from_is_err_and}
use Rattle.ps_editing.specs.Lines.{worded}
use Rattle.ps_editing.proofs.Stages.{cut_before}
use Rattle.ps_editing.proofs.runs.run_edits.Goals as goal

pub returns-in_err-expert : goal.returns-in_err-expert
returns-in_err-expert g c =
    let p = err_from_is_err_and c.from_residual.result c.from_residual.ensures.1 in
    rw (p.1, p.2) (cut_before c.args.domain c.args.names.now (worded c.args.lines.now c.args.words.now) (g.O.Sink.shown c.args.out.now))
