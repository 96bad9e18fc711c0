use Rattle.ps_session.specs.Lines.{IsBegun, IsIdle}
use Rattle.ps_session.specs.declared.ways.Turns.TheVariants.{InOrder}
use Rattle.ps_session.proofs.session.run_unwritten.Given as goal

abbrev pub invariant-loop : goal.invariant-loop
invariant-loop g l = record {
  next : (goal.iterator-loop g).can_next l.iterator';
  finite : (goal.iterator-loop g).is_finite l.iterator';
  idle : IsIdle l.fn.board.input l.board;
  begun : IsBegun InOrder (g.S.Solver.says l.solver) l.fn.board.input l.board.entries;
}
