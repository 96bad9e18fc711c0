use Rattle.std.proofs.Common.{◌≡◌, filter_map, take}
use Rattle.ps_action.specs.Effects.{added_by}
use Rattle.ps_problem.proofs.problem.facts.adds_of.Given as goal

abbrev pub invariant-loop-effect : goal.invariant-loop-effect
invariant-loop-effect l = l.all.items ≡ filter_map added_by (take l.effect-index l.effects)
