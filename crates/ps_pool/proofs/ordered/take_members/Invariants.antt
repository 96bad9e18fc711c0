use Rattle.std.proofs.Common.{◌≡◌, true}
use Rattle.ps_rules.specs.Choices.{Says}
use Rattle.ps_rules.specs.Runs.{has_run}
use Rattle.ps_board.specs.Board.{IsAtRest}
use Rattle.ps_pool.specs.Rounds.{LeadsTo, passed_before}
use Rattle.ps_pool.proofs.ordered.take_members.Given as goal

abbrev pub invariant-loop-k : goal.invariant-loop-k
invariant-loop-k g l = record {
  rest : IsAtRest l.board;
  input : l.board.input ≡ l.initial.board.input;
  passed : l.passed ≡ passed_before l.initial.board.input l.k;
  leads : (says : Says) → LeadsTo says l.initial.board.input 0 l.initial.board.entries l.k l.board.entries;
  ran : has_run l.initial.board.entries ≡ true → has_run l.board.entries ≡ true;
}
