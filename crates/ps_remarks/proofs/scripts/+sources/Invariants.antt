use Rattle.std.proofs.Common.{◌+◌, ◌*◌}
use Rattle.ps_remarks.proofs.scripts.+sources.Given as goal

-- a file that a line names has one level less
abbrev pub decreases-open : goal.decreases-open
decreases-open g l = 2 * l.levels + 1

abbrev pub decreases-take : goal.decreases-take
decreases-take g l = 2 * l.levels
