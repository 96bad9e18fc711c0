use Rattle.std.proofs.Common.{◌∙◌}
use Rattle.std.proofs.lemmas.Result.{err_from_is_err_and}
use Rattle.ps_editing.proofs.Stages.{answer_cut, answer_starved, answer_written}
use Rattle.ps_editing.proofs.runs.write_answer.Goals as goal

pub returns-in_err-text : goal.returns-in_err-text
returns-in_err-text g c =
    let p = err_from_is_err_and c.from_residual.result c.from_residual.ensures.1 in
    rw (p.1, p.2) (answer_starved c.args.expert.now c.args.names.now c.args.n c.args.answer.now c.args.problem.now (g.O.Sink.shown c.args.out.now))

pub returns-in_err-put : goal.returns-in_err-put
returns-in_err-put g c =
    let p = err_from_is_err_and c.from_residual-in_err-put.result c.from_residual-in_err-put.ensures.1 in
    rw (p.1, p.2)
    (answer_cut c.args.expert.now c.args.names.now c.args.n c.args.answer.now c.args.problem.now c.deref.result.now (c.deref.ensures.value ∙ c.in_ok-text.ensures) (g.O.Sink.shown c.args.out.now) (g.O.Sink.shown c.put.new.sink)
    c.in_err-put.field-0.0 c.in_err-put.ensures)

pub returns : goal.returns
returns g c =
    answer_written c.args.expert.now c.args.names.now c.args.n c.args.answer.now c.args.problem.now c.deref.result.now (c.deref.ensures.value ∙ c.in_ok-text.ensures) (g.O.Sink.shown c.args.out.now) (g.O.Sink.shown c.put.new.sink)
    c.is_refused.result c.is_refused.ensures c.in_ok-put.ensures
