use Rattle.ps_pool.proofs.Rounds.{stops-at}
use Rattle.ps_pool.proofs.ordered.take_members.Goals as goal
use Rattle.ps_board.proofs.Ready.{on-err}

pub returns-in_err-passed-clause-err : goal.returns-in_err-passed-clause-err
returns-in_err-passed-clause-err g c =
    on-err c.from_residual.result (λ says.
    stops-at says c.args.board.now.input 0 c.loop-k.k c.args.board.now.entries c.loop-k.board.entries c.take_member.new.board.entries (c.loop-k.invariant.leads says) c.in_err-passed.ensures.err)
