use Rattle.std.proofs.Common.{◌≡◌, drop}
use Rattle.ps_picture.specs.Rows.{ending_in}
use Rattle.ps_picture.proofs.rows.ending_in.Given as goal

-- what the entries left say, all say
abbrev pub invariant-loop-line : goal.invariant-loop-line
invariant-loop-line l = ending_in l.subject l.last l.entries ≡ ending_in l.subject l.last (drop l.line-index l.entries)
