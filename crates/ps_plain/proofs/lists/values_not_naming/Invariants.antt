use Rattle.std.proofs.Common.{◌≡◌, ◌++◌, drop, filter, not}
use Rattle.ps_world.specs.Knowledge.{is_among}
use Rattle.ps_plain.proofs.lists.values_not_naming.Given as goal

abbrev pub invariant-loop-there : goal.invariant-loop-there
invariant-loop-there l = l.kept.items ++ filter (λ v. not (is_among l.name v.0.args)) (drop l.there-index l.values) ≡ filter (λ v. not (is_among l.name v.0.args)) l.values
