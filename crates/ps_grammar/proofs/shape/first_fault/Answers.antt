use Rattle.std.proofs.Common.{arith}
use Rattle.std.proofs.lemmas.Option.{slice_get-get_or}
use Rattle.ps_grammar.proofs.FirstFaults.{reached_from, whole, first_fault_here, first_fault_end}
use Rattle.ps_grammar.specs.declared.marks.Mark.TheVariants.{Open}
use Rattle.ps_grammar.proofs.shape.first_fault.Goals as goal

pub returns-then-at-marks-clause-fault : goal.returns-then-at-marks-clause-fault
returns-then-at-marks-clause-fault c =
    let r = reached_from c.args.start.now _ c.args.marks.now c.in_ok-at.at c.taken.new.self c.in_ok-wanted.ensures.value c.in_ok-at.ensures.fits c.in_ok-at.ensures.flat in
    let here = slice_get-get_or c.args.marks.now c.in_ok-at.at Open (omega (arith, c.if-at-marks.true)) in
    first_fault_here c.args.start.now c.args.marks.now c.in_ok-at.at _ _ r here (rw here at c.in_ok-at.ensures.stops)

pub returns-then-is_empty-clause-none : goal.returns-then-is_empty-clause-none
returns-then-is_empty-clause-none c _ =
    let r = reached_from c.args.start.now _ c.args.marks.now c.in_ok-at.at c.taken.new.self c.in_ok-wanted.ensures.value c.in_ok-at.ensures.fits c.in_ok-at.ensures.flat in
    whole c.args.start.now c.args.marks.now c.in_ok-at.at _ (omega (arith, c.if-at-marks.false)) (c.is_empty.ensures.0 c.if-is_empty.true) r

pub returns-clause-fault : goal.returns-clause-fault
returns-clause-fault c =
    let r = reached_from c.args.start.now _ c.args.marks.now c.in_ok-at.at c.taken.new.self c.in_ok-wanted.ensures.value c.in_ok-at.ensures.fits c.in_ok-at.ensures.flat in
    first_fault_end c.args.start.now c.args.marks.now c.in_ok-at.at _ (omega (arith, c.if-at-marks.false)) (λ none. let h = c.is_empty.ensures.1 none in cc) r
