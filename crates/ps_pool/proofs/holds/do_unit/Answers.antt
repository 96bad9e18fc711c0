use Rattle.ps_pool.proofs.Outs.{unit-by}
use Rattle.ps_pool.proofs.holds.do_unit.Goals as goal

pub returns-clause-grows : goal.returns-clause-grows
returns-clause-grows c =
    (unit-by c.after_unit.result c.args.board.now c.after_unit.new.self c.args.hand c.args.grant c.after_unit.ensures.did c.after_unit.ensures.dropped c.after_unit.ensures.err).0

pub returns-clause-input : goal.returns-clause-input
returns-clause-input c =
    (unit-by c.after_unit.result c.args.board.now c.after_unit.new.self c.args.hand c.args.grant c.after_unit.ensures.did c.after_unit.ensures.dropped c.after_unit.ensures.err).1
