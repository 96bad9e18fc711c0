use Rattle.std.proofs.Common.{◌≡◌, map, take}
use Rattle.ps_world.specs.Knowledge.{is_known}
use Rattle.ps_marks.proofs.places.Places.flags.Given as goal

abbrev pub invariant-loop-fact : goal.invariant-loop-fact
invariant-loop-fact l = l.flags.items ≡ map (is_known l.problem) (take l.fact-index l.self)
