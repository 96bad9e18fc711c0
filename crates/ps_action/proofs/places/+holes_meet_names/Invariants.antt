use Rattle.std.proofs.Common.{length}
use Rattle.ps_action.proofs.places.+holes_meet_names.Given as goal

abbrev pub decreases-holes_meet_names : goal.decreases-holes_meet_names
decreases-holes_meet_names l = length l.holes.now
