use Rattle.std.proofs.Common.{◌≡◌, ◌++◌, take}
use Rattle.ps_reports.specs.Audit.{kept_of}
use Rattle.ps_reports.proofs.keeping.keep_of.Given as goal

abbrev pub invariant-loop-report : goal.invariant-loop-report
invariant-loop-report l = l.kept.items ≡ l.initial.kept.items ++ kept_of l.performer l.place l.h (take l.report-index l.reports)
