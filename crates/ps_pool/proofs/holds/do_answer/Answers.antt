use Rattle.std.proofs.Common.{ap}
use Rattle.ps_board.specs.declared.board.Shown.{Shown}
use Rattle.ps_board.specs.Submits.{taken_event}
use Rattle.ps_pool.proofs.Working.{did-by}
use Rattle.ps_pool.proofs.holds.do_answer.Goals as goal

pub returns-in-Ok-clause-grows : goal.returns-in-Ok-clause-grows
returns-in-Ok-clause-grows c =
    did-by c.args.board.now.input c.args.hand c.args.board.now.entries c.submit.new.self.entries (taken_event c.in-Ok.field-0 c.args.answer) (ap (λ (b : Shown). b.entries) c.in-Ok.ensures.did)
