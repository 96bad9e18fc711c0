use Rattle.std.proofs.Common.{◌≡◌, ◌++◌, flat_map, take}
use Rattle.ps_ground.specs.Atoms.{added_in}
use Rattle.ps_ground.proofs.atoms.push_all_added.Given as goal

abbrev pub invariant-loop-effect : goal.invariant-loop-effect
invariant-loop-effect l = l.facts.items ≡ l.fn.facts.items ++ flat_map (added_in l.env) (take l.effect-index l.effects)
