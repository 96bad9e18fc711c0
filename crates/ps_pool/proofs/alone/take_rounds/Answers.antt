use Rattle.ps_pool.proofs.GoingAlone.{alone-ran}
use Rattle.ps_pool.proofs.alone.take_rounds.Goals as goal

pub take_round-requires-clause-ran : goal.take_round-requires-clause-ran
take_round-requires-clause-ran g c = alone-ran c.args.board.now c.loop.board c.requires.ran c.loop.invariant.alone
