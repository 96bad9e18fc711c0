use Rattle.std.proofs.lemmas.Result.{err_from_is_err_and}
use Rattle.ps_editing.proofs.Stages.{line_answered, line_starved}
use Rattle.ps_editing.proofs.runs.write_line.Goals as goal

pub returns-in_err-answer : goal.returns-in_err-answer
returns-in_err-answer g c =
    let p = err_from_is_err_and c.from_residual.result c.from_residual.ensures.1 in
    rw (p.1, p.2) (line_starved c.args.expert.now c.args.names.now c.args.n (c.args.line.now, c.args.word) c.args.undo.now _ (g.O.Sink.shown c.args.out.now))

pub returns : goal.returns
returns g c =
    line_answered c.args.expert.now c.args.names.now c.args.n (c.args.line.now, c.args.word) c.args.undo.now c.answer.new.undo c.in_ok-answer.answer c.problem.result.now (g.O.Sink.shown c.args.out.now) (g.O.Sink.shown c.write_answer.new.out)
    c.write_answer.result c.in_ok-answer.ensures c.problem.ensures c.write_answer.ensures
