use Rattle.std.proofs.Common.{refl}
use Rattle.ps_pool.proofs.Outs.{call-by}
use Rattle.ps_pool.proofs.holds.do_turn.Goals as goal

pub returns-in-Performer-clause-grows : goal.returns-in-Performer-clause-grows
returns-in-Performer-clause-grows c =
    call-by c.performer_turn.result c.args.board.now c.performer_turn.new.self _ _ c.args.hand _ refl refl c.performer_turn.ensures.did c.performer_turn.ensures.err

pub returns-in-Observer-clause-grows : goal.returns-in-Observer-clause-grows
returns-in-Observer-clause-grows c =
    call-by c.observer_turn.result c.args.board.now c.observer_turn.new.self _ _ c.args.hand _ refl refl c.observer_turn.ensures.did c.observer_turn.ensures.err
