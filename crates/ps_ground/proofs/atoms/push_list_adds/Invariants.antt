use Rattle.std.proofs.Common.{◌≡◌, ◌++◌, flat_map, take}
use Rattle.ps_ground.specs.Atoms.{may_add_spread}
use Rattle.ps_ground.proofs.atoms.push_list_adds.Given as goal

abbrev pub invariant-loop-spread : goal.invariant-loop-spread
invariant-loop-spread l = l.facts.items ≡ l.fn.facts.items ++ flat_map (may_add_spread l.expert l.problem l.env) (take l.spread-index l.effects)
