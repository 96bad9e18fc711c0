use Rattle.std.proofs.Common.{arith}
use Rattle.ps_action.specs.Holes.{blank}
use Rattle.ps_world.proofs.ShortLists.{IsFilled-written}
use Rattle.ps_action.proofs.places.Holes.of.Goals as goal

pub invariant_of-result : goal.invariant_of-result
invariant_of-result c = IsFilled-written blank c.args.holes.now c.copy_from_slice.new.self c.copy_from_slice.ensures.after (omega arith)
