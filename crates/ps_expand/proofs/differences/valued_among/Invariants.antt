use Rattle.std.proofs.Common.{◌≡◌, ◌++◌, drop, filter_map}
use Rattle.ps_expand.specs.Differences.{new_value}
use Rattle.ps_expand.proofs.differences.valued_among.Given as goal

abbrev pub invariant-loop-term : goal.invariant-loop-term
invariant-loop-term l =
    l.all ++ filter_map (new_value l.old.values l.new.values) (drop l.term-index l.terms)
    ≡ filter_map (new_value l.old.values l.new.values) l.terms
