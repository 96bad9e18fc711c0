use Rattle.std.proofs.Common.{refl, arith, rules}
use Rattle.std.proofs.lemmas.Result.{err_from_is_err_and}
use Rattle.ps_editing.specs.Lines.{worded}
use Rattle.ps_editing.proofs.Stages.{cut_first, cut_line, length-worded, written_all, written_first, written_line}
use Rattle.ps_editing.proofs.runs.write_lines.Goals as goal

pub returns-in_err-put : goal.returns-in_err-put
returns-in_err-put g c =
    let p = err_from_is_err_and c.from_residual.result c.from_residual.ensures.1 in
    rw (p.1, p.2)
    (cut_first c.args.expert.now c.args.names.now (worded c.args.lines.now c.args.words.now) (g.O.Sink.shown c.args.out.now) (g.O.Sink.shown c.put.new.sink) _ c.in_err-put.field-0.0 refl c.in_err-put.ensures)

pub loop-i-init : goal.loop-i-init
loop-i-init g c =
    let lines = worded c.args.lines.now c.args.words.now in
    let old = g.O.Sink.shown c.args.out.now in
    let now = g.O.Sink.shown c.put.new.sink in
    written_first c.args.expert.now c.args.names.now lines c.args.undo.now old now _ c.requires.constants c.requires.begun refl c.in_ok-put.ensures

pub returns-in_err-refused : goal.returns-in_err-refused
returns-in_err-refused g c =
    let p = err_from_is_err_and c.from_residual-in_err-refused.result c.from_residual-in_err-refused.ensures.1 in
    rw (p.1, p.2)
    (cut_line c.args.expert.now c.args.names.now c.args.lines.now c.args.words.now c.loop-i.i c.loop-i.undo c.write_line.new.undo c.loop-i.refused (g.O.Sink.shown c.args.out.now) (g.O.Sink.shown c.loop-i.out) (g.O.Sink.shown c.write_line.new.out)
    c.index-lines-i.result c.word_at-word.result (omega arith) c.index-lines-i.is c.word_at-word.ensures c.loop-i.invariant c.in_err-refused.field-0.0 c.in_err-refused.ensures)

pub loop-i-preserved : goal.loop-i-preserved
loop-i-preserved g c =
    written_line c.args.expert.now c.args.names.now c.args.lines.now c.args.words.now c.loop-i.i c.loop-i.undo c.write_line.new.undo c.loop-i.refused (g.O.Sink.shown c.args.out.now) (g.O.Sink.shown c.loop-i.out) (g.O.Sink.shown c.write_line.new.out)
    c.index-lines-i.result c.word_at-word.result (omega arith) c.index-lines-i.is c.word_at-word.ensures c.loop-i.invariant c.in_ok-refused.field-0 c.in_ok-refused.ensures

pub returns : goal.returns
returns g c =
    written_all c.args.expert.now c.args.names.now (worded c.args.lines.now c.args.words.now) c.loop-i.i c.loop-i.undo c.loop-i.refused (g.O.Sink.shown c.args.out.now) (g.O.Sink.shown c.loop-i.out) c.from.result
    (omega (arith, length-worded c.args.lines.now c.args.words.now, c.loop-i-test.false, c.loop-i.auto.i-end)) (search rules) c.loop-i.invariant
