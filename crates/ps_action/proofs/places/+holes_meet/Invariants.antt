use Rattle.std.proofs.Common.{length}
use Rattle.ps_action.proofs.places.+holes_meet.Given as goal

abbrev pub decreases-holes_meet : goal.decreases-holes_meet
decreases-holes_meet l = length l.one.now
