use Rattle.std.proofs.Common.{arith}
use Rattle.ps_board.proofs.Answering.{few-answered}
use Rattle.ps_board.proofs.whole.Parts.number.Goals as goal

pub overflow_cast-result : goal.overflow_cast-result
overflow_cast-result c =
    let few = few-answered c.args.self.now c.requires.stands c.requires.left in
    let same = c.answered.ensures c.args.self.now.entries.items c.requires.stands.kept.told.lines in
    omega (arith, few, same)

pub overflow_add-result : goal.overflow_add-result
overflow_add-result c =
    let few = few-answered c.args.self.now c.requires.stands c.requires.left in
    let same = c.answered.ensures c.args.self.now.entries.items c.requires.stands.kept.told.lines in
    omega (arith, few, same)
