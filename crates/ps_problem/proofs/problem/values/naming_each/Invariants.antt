use Rattle.std.proofs.Common.{◌≡◌, filter, map}
use Rattle.std.specs.Map.{keys_of}
use Rattle.std.specs.Map.Iter.{deref_pair}
use Rattle.ps_world.specs.Knowledge.{is_among}
use Rattle.ps_problem.proofs.problem.values.naming_each.Given as goal

abbrev pub invariant-loop-term : goal.invariant-loop-term
invariant-loop-term l = l.found.items ≡ filter (λ f. is_among l.name f.args) (keys_of (map deref_pair l.yielded))
