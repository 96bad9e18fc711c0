use Rattle.std.proofs.Common.{ap, ◌∙◌}
use Rattle.ps_rules.specs.Runs.{has_run}
use Rattle.ps_pool.proofs.Ran.{running-ran}
use Rattle.call_tests.proofs.runs.work_at_seats.Goals as goal

pub is_seen_over-over-requires-clause-opened : goal.is_seen_over-over-requires-clause-opened
is_seen_over-over-requires-clause-opened g c κs within = ap has_run c.in-Ok.ensures.book.1 ∙ running-ran c.args.board.entries c.requires.opened
