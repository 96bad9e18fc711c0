use Rattle.std.proofs.Common.{◌≡◌}
use Rattle.std.specs.List.{All}
use Rattle.ps_pool.specs.Rounds.{passed_before}
use Rattle.ps_pool.specs.Workers.{IsThere}
use Rattle.ps_pool.proofs.outline.all_members.Given as goal

abbrev pub invariant-loop-k : goal.invariant-loop-k
invariant-loop-k l = record {
  passed : l.passed ≡ passed_before l.board.input l.k;
  there : All (IsThere l.board.input) l.members.items;
}
