use Rattle.std.proofs.Common.{◌≡◌, ◌≤◌, take}
use Rattle.ps_rules.specs.Reading.{times}
use Rattle.ps_reports.specs.Audit.{is_recorded}
use Rattle.ps_reports.proofs.counting.count_recorded.Given as goal

abbrev pub invariant-loop-entry : goal.invariant-loop-entry
invariant-loop-entry l = (l.count ≡ times (is_recorded l.i) (take l.entry-index l.h)) × (l.count ≤ l.entry-index)
