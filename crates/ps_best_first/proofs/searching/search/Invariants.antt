use Rattle.std.proofs.Common.{◌≡◌, ◌-◌}
use Rattle.ps_best_first.specs.Search.{IsSearch, found_from}
use Rattle.ps_best_first.proofs.searching.search.Given as goal

-- what is found from here on is what is found from the beginning
abbrev pub invariant-loop-done : goal.invariant-loop-done
invariant-loop-done l = record {
  search : IsSearch l.task l.budget l.reached l.leaves;
  same : found_from l.task l.budget (l.budget - l._done) l.reached l.leaves ≡ found_from l.task l.budget l.budget l.initial.reached l.initial.leaves;
}
