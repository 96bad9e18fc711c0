use Rattle.std.proofs.Common.{refl}
use Rattle.ps_board.specs.Board.{ticking}
use Rattle.ps_pool.proofs.Outs.{call-by, tick-ended, tick-wanted}
use Rattle.ps_pool.proofs.holds.do_tick.Goals as goal

pub returns-clause-wanted : goal.returns-clause-wanted
returns-clause-wanted c = tick-wanted c.tick_with_room.result c.args.board.now c.tick_with_room.new.board c.args.hand c.tick_with_room.ensures.answer c.tick_with_room.ensures.did

pub returns-clause-over : goal.returns-clause-over
returns-clause-over c = tick-ended c.tick_with_room.result c.args.board.now c.tick_with_room.new.board c.args.hand c.tick_with_room.ensures.answer c.tick_with_room.ensures.did

pub returns-clause-grows : goal.returns-clause-grows
returns-clause-grows c =
    call-by c.tick_with_room.result c.args.board.now c.tick_with_room.new.board _ _ c.args.hand (ticking c.args.board.now) refl refl c.tick_with_room.ensures.did c.tick_with_room.ensures.err
