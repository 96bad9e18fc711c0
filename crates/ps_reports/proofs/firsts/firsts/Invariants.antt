use Rattle.std.proofs.Common.{◌≡◌, take}
use Rattle.ps_reports.specs.Audit.{firsts}
use Rattle.ps_reports.proofs.firsts.firsts.Given as goal

abbrev pub invariant-loop-report : goal.invariant-loop-report
invariant-loop-report l = l.firsts.items ≡ firsts (take l.report-index l.reports)
