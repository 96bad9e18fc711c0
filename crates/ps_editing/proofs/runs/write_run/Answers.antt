use Rattle.std.proofs.lemmas.Result.{err_from_is_err_and}
use Rattle.ps_editing.specs.Lines.{worded}
use Rattle.ps_editing.proofs.Stages.{cut_before}
use Rattle.ps_editing.proofs.runs.write_run.Goals as goal

pub returns-in_err-new : goal.returns-in_err-new
returns-in_err-new g c =
    let p = err_from_is_err_and c.from_residual.result c.from_residual.ensures.1 in
    rw (p.1, p.2) (cut_before c.args.expert.now c.args.names.now (worded c.args.lines.now c.args.words.now) (g.O.Sink.shown c.args.out.now))
