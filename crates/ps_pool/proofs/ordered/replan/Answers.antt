use Rattle.std.proofs.Common.{[], sym, subst, append-nil}
use Rattle.ps_board.specs.Submits.{IsSubmitted}
use Rattle.ps_pool.proofs.Asking.{never-stale}
use Rattle.ps_pool.proofs.Outs.{wanted-still}
use Rattle.ps_pool.proofs.ordered.replan.Goals as goal

pub submit-requires-clause-asked : goal.submit-requires-clause-asked
submit-requires-clause-asked g c =
    (wanted-still c.args.board.now.input c.args.board.now.entries c.args.board.now.entries [] c.args.snapshot c.requires.asked (sym (append-nil c.args.board.now.entries))).asked

pub unreachable-requires : goal.unreachable-requires
unreachable-requires g c =
    never-stale c.args.board.now.input c.args.board.now.entries c.args.snapshot _ c.requires.asked
    (subst (λ r. IsSubmitted c.args.board.now.input c.args.board.now.entries c.args.snapshot.at r) c.in-Stale.is c.in_ok-submit.ensures.answer)
