use Rattle.std.proofs.Common.{length}
use Rattle.ps_world.proofs.conditions.+is_same_params.Given as goal

abbrev pub decreases-is_same_params : goal.decreases-is_same_params
decreases-is_same_params l = length l.a.now
