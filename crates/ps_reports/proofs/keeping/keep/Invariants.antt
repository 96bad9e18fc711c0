use Rattle.std.proofs.Common.{◌≡◌, ◌≤◌, take}
use Rattle.ps_reports.specs.Audit.{kept_by}
use Rattle.ps_reports.proofs.keeping.keep.Given as goal

abbrev pub invariant-loop-member : goal.invariant-loop-member
invariant-loop-member l = ((l.place, l.kept.items) ≡ kept_by l.h l.reports (take l.member-index l.i.members)) × (l.place ≤ l.member-index)
