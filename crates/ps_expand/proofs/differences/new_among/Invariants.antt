use Rattle.std.proofs.Common.{◌≡◌, ◌++◌, drop, filter}
use Rattle.ps_expand.specs.Differences.{is_new}
use Rattle.ps_expand.proofs.differences.new_among.Given as goal

abbrev pub invariant-loop-fact : goal.invariant-loop-fact
invariant-loop-fact l =
    l.all ++ filter (is_new l.old.facts l.new.facts) (drop l.fact-index l.facts) ≡ filter (is_new l.old.facts l.new.facts) l.facts
