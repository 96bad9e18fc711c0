use Rattle.ps_pool.specs.Workers.{GoesOnAlone}
use Rattle.ps_pool.proofs.alone.take_rounds.Given as goal

abbrev pub invariant-loop : goal.invariant-loop
invariant-loop g l = record {
  next : (goal.iterator-loop g).can_next l.iterator';
  finite : (goal.iterator-loop g).is_finite l.iterator';
  alone : GoesOnAlone l.fn.board l.board;
}
