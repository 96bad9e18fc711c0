use Rattle.std.proofs.Common.{◌≡◌, ◌≤◌, take}
use Rattle.ps_reports.specs.Audit.{on_time}
use Rattle.ps_reports.proofs.auditing.count_on_time.Given as goal

abbrev pub invariant-loop-late : goal.invariant-loop-late
invariant-loop-late l = (l.count ≡ on_time (take l.late-index l.kept)) × (l.count ≤ l.late-index)
