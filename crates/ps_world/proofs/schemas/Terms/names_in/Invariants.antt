use Rattle.std.proofs.Common.{◌≡◌, map, take}
use Rattle.ps_world.specs.Bound.{name_in}
use Rattle.ps_world.proofs.schemas.Terms.names_in.Given as goal

abbrev pub invariant-loop-term : goal.invariant-loop-term
invariant-loop-term l = l.names ≡ map (name_in l.env) (take l.term-index l.term-items)
