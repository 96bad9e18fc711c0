use Rattle.ps_session.specs.Lines.{IsWritten}
use Rattle.ps_session.proofs.lines.Session.write_lines.Given as goal

abbrev pub invariant-loop : goal.invariant-loop
invariant-loop g l = record {
  next : (goal.iterator-loop g).can_next l.iterator';
  finite : (goal.iterator-loop g).is_finite l.iterator';
  written : IsWritten l.self.turns (g.S.Solver.says l.self.solver.now) l.fn.board.input l.self.names.now l.board (g.O.Sink.shown l.fn.out) (g.O.Sink.shown l.out);
}
