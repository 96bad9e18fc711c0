use Rattle.std.proofs.Common.{◌≡◌, ◌++◌, drop, filter, not}
use Rattle.ps_world.specs.Knowledge.{is_among}
use Rattle.ps_plain.proofs.lists.facts_not_naming.Given as goal

abbrev pub invariant-loop-there : goal.invariant-loop-there
invariant-loop-there l = l.kept.items ++ filter (λ f. not (is_among l.name f.args)) (drop l.there-index l.facts) ≡ filter (λ f. not (is_among l.name f.args)) l.facts
