use Rattle.std.proofs.Common.{◌≡◌, ◌++◌, flat_map, take}
use Rattle.ps_action.specs.Touching.{read_by_guarded}
use Rattle.ps_eval.proofs.effects.push_read_parts.Given as goal

abbrev pub invariant-loop-part : goal.invariant-loop-part
invariant-loop-part l = l.all.items ≡ l.fn.all.items ++ flat_map read_by_guarded (take l.part-index l.parts)
