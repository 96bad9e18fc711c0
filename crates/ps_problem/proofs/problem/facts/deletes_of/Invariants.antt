use Rattle.std.proofs.Common.{◌≡◌, filter_map, take}
use Rattle.ps_problem.specs.Puts.{deleted_by}
use Rattle.ps_problem.proofs.problem.facts.deletes_of.Given as goal

abbrev pub invariant-loop-effect : goal.invariant-loop-effect
invariant-loop-effect l = l.all.items ≡ filter_map deleted_by (take l.effect-index l.effects)
