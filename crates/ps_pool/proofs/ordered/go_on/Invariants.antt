use Rattle.std.proofs.Common.{◌≡◌, true}
use Rattle.ps_rules.specs.Runs.{has_run}
use Rattle.ps_board.specs.Board.{IsAtRest}
use Rattle.ps_pool.specs.Rounds.{LeadsTo}
use Rattle.ps_pool.proofs.ordered.go_on.Given as goal

abbrev pub invariant-loop : goal.invariant-loop
invariant-loop g l = record {
  next : (goal.iterator-loop g).can_next l.iterator';
  finite : (goal.iterator-loop g).is_finite l.iterator';
  rest : IsAtRest l.board;
  input : l.board.input ≡ l.fn.board.input;
  ran : has_run l.board.entries ≡ true;
  leads : LeadsTo (g.S.Solver.says l.fn.solver) l.fn.board.input 0 l.fn.board.entries 0 l.board.entries;
}
