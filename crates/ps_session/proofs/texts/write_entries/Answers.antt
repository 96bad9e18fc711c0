use Rattle.std.proofs.Common.{◌≡◌, [], ◌≤◌, ◌<◌, length, ap, ◌∙◌, subst, arith}
use Rattle.std.proofs.lemmas.Result.{err_from_is_err_and}
use Rattle.ps_session.specs.Lines.{PutsWork, text_from}
use Rattle.ps_session.proofs.AddedTexts.{asks-last, text-done, text-more}
use Rattle.ps_session.proofs.Writing.{put-work, textless}
use Rattle.ps_session.proofs.texts.write_entries.Goals as goal

pub push_at-requires-clause-asks : goal.push_at-requires-clause-asks
push_at-requires-clause-asks g c = asks-last c.args.from c.args.board.now.entries c.loop-k.k c.loop-k.invariant.0 c.requires.asks

pub returns-in_err-text-clause-text : goal.returns-in_err-text-clause-text
returns-in_err-text-clause-text g c =
    let p = err_from_is_err_and c.from_residual.result c.from_residual.ensures.1 in
    rw (p.1, p.2) (textless (text_from c.args.names.now c.args.board.now.input c.args.board.now.entries c.args.from) (g.O.Sink.shown c.args.out.now))

pub returns-in_err-push_at-clause-text : goal.returns-in_err-push_at-clause-text
returns-in_err-push_at-clause-text g c =
    let p = err_from_is_err_and c.from_residual-in_err-push_at.result c.from_residual-in_err-push_at.ensures.1 in
    rw (p.1, p.2) (textless (text_from c.args.names.now c.args.board.now.input c.args.board.now.entries c.args.from) (g.O.Sink.shown c.args.out.now))

pub loop-k-preserved : goal.loop-k-preserved
loop-k-preserved g c =
    let es = c.args.board.now.entries in
    let len = ap length c.entries-k-end.ensures.entries in
    let low = c.loop-k.invariant.0 in
    let lt : c.loop-k.k < length es = omega (arith, len, c.loop-k-test.true) in (
      omega (arith, low),
      text-more c.args.names.now c.args.board.now.input es c.args.from [] c.loop-k.k c.loop-k.text.items c.push_at.new.text.items lt c.loop-k.invariant.1 c.in_ok-push_at.ensures,
    )

pub returns-clause-text : goal.returns-clause-text
returns-clause-text g c =
    let es = c.args.board.now.entries in
    let i = c.args.board.now.input in
    let names = c.args.names.now in
    let len = ap length c.entries-k-end.ensures.entries in
    let past : length es ≤ c.loop-k.k = omega (arith, len, c.loop-k-test.false) in
    let all : c.deref.result.now ≡ text_from names i es c.args.from =
    c.deref.ensures.value ∙ text-done names i es c.args.from [] c.loop-k.k c.loop-k.text.items past c.loop-k.invariant.1 in
    subst (λ text. PutsWork text (g.O.Sink.shown c.args.out.now) (g.O.Sink.shown c.put.new.sink) c.put.result) all
    (put-work c.deref.result.now (g.O.Sink.shown c.args.out.now) (g.O.Sink.shown c.put.new.sink) c.put.result c.put.ensures)
