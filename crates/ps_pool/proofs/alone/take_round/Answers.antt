use Rattle.ps_pool.proofs.GoingAlone.{alone-ran}
use Rattle.ps_pool.proofs.alone.take_round.Goals as goal

pub take_tick-requires : goal.take_tick-requires
take_tick-requires g c = alone-ran c.args.board.now c.take_members.new.board c.requires.ran c.take_members.ensures
