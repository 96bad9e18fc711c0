use Rattle.ps_pool.specs.Workers.{GoesOnAlone}
use Rattle.ps_pool.proofs.alone.take_members.Given as goal

abbrev pub invariant-loop-place : goal.invariant-loop-place
invariant-loop-place g l = GoesOnAlone l.fn.board l.board
