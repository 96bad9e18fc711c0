use Rattle.std.proofs.Common.{ap}
use Rattle.std.proofs.lemmas.Result.{on_ok_weaker}
use Rattle.ps_board.specs.declared.board.Shown.{Shown}
use Rattle.ps_board.specs.Board.{Appended, grants_without, recording}
use Rattle.ps_pool.proofs.Taking.{work-turn}
use Rattle.ps_pool.proofs.ordered.take_performer.Goals as goal

pub returns-in-Work-clause-ok : goal.returns-in-Work-clause-ok
returns-in-Work-clause-ok g c =
    on_ok_weaker c.hand_in.result
    (λ (done : Appended 1 (recording c.performer_turn.new.self c.in-Work.grant)
    (record c.performer_turn.new.self { grants = grants_without c.performer_turn.new.self c.in-Work.grant }) c.hand_in.new.board).
    (work-turn c.args.board.now c.performer_turn.new.self c.args.p c.in_ok-grant.field-0 c.in-Work.grant c.hand_in.new.board.entries c.hand_in.new.board.grants c.requires.rest c.requires.there
    c.in-Work.is c.in_ok-grant.ensures.answer (c.in_ok-grant.ensures.out c.in-Work.grant c.in-Work.is) (ap (λ (b : Shown). b.input) c.in_ok-grant.ensures.did) (ap (λ (b : Shown). b.entries) c.in_ok-grant.ensures.did) (ap (λ (b : Shown). b.grants) c.in_ok-grant.ensures.did)
    (ap (λ (b : Shown). b.entries) done) (ap (λ (b : Shown). b.grants) done)).whole)
    c.hand_in.ensures.did
