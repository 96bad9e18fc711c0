use Rattle.std.proofs.Common.{arith}
use Rattle.std.proofs.lemmas.Option.{slice_get-get_or}
use Rattle.ps_grammar.proofs.FirstFaults.{reached_from, refuses, whole, unfinished}
use Rattle.ps_grammar.specs.Shape.{text_start}
use Rattle.ps_grammar.proofs.shape.judge.Goals as goal

pub returns-then-at-marks-clause-fault : goal.returns-then-at-marks-clause-fault
returns-then-at-marks-clause-fault c =
    let r = reached_from text_start _ c.args.marks.now c.in_ok-at.at c.taken.new.self c.in_ok-wanted.ensures c.in_ok-at.ensures.fits c.in_ok-at.ensures.flat in
    refuses c.fault-fault.result c.args.marks.now c.in_ok-at.at _ _ r (slice_get-get_or c.args.marks.now c.in_ok-at.at _ (omega (arith, c.if-at-marks.true))) (rw c.mark_at.ensures at c.fault-fault.ensures)

pub returns-then-is_empty-clause-ok : goal.returns-then-is_empty-clause-ok
returns-then-is_empty-clause-ok c =
    let r = reached_from text_start _ c.args.marks.now c.in_ok-at.at c.taken.new.self c.in_ok-wanted.ensures c.in_ok-at.ensures.fits c.in_ok-at.ensures.flat in
    whole text_start c.args.marks.now c.in_ok-at.at _ (omega (arith, c.if-at-marks.false)) (c.is_empty.ensures.0 c.if-is_empty.true) r

pub returns-clause-fault : goal.returns-clause-fault
returns-clause-fault c =
    let r = reached_from text_start _ c.args.marks.now c.in_ok-at.at c.taken.new.self c.in_ok-wanted.ensures c.in_ok-at.ensures.fits c.in_ok-at.ensures.flat in
    unfinished c.args.marks.now c.in_ok-at.at _ (omega (arith, c.if-at-marks.false)) (λ none. let h = c.is_empty.ensures.1 none in cc) r
