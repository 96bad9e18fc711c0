use Rattle.std.proofs.Common.{◌+◌, ◌*◌, length}
use Rattle.ps_pool.proofs.workers.+seats.Given as goal

abbrev pub decreases-work_all : goal.decreases-work_all
decreases-work_all g l = 4 * length l.seats.now

abbrev pub decreases-work_first : goal.decreases-work_first
decreases-work_first g l = 4 * length l.rest.now + 3

abbrev pub decreases-work_beside : goal.decreases-work_beside
decreases-work_beside g l = 4 * length l.rest.now + 2

abbrev pub decreases-work_beside-others : goal.decreases-work_beside-others
decreases-work_beside-others g l = 4 * length l.rest.now + 1
