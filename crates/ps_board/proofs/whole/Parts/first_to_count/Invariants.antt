use Rattle.std.proofs.Common.{◌≡◌, ◌≤◌, take}
use Rattle.ps_rules.specs.Known.{know}
use Rattle.ps_stale_plan_laws.specs.Asked.{NoneCountBetween}
use Rattle.ps_board.proofs.whole.Parts.first_to_count.Given as goal

abbrev pub invariant-loop-k : goal.invariant-loop-k
invariant-loop-k l = record {
  after : l.at ≤ l.k;
  known : l.problem ≡ know l.self.input (take l.k l.self.entries.items);
  none : NoneCountBetween l.self.input l.self.entries.items l.at l.k;
}
