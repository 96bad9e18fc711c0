use Rattle.std.proofs.Common.{◌≡◌, drop}
use Rattle.ps_picture.specs.Courses.{last_line}
use Rattle.ps_picture.proofs.courses.last_line.Given as goal

-- the last line of the entries left, or else this, is that of all
abbrev pub invariant-loop-at : goal.invariant-loop-at
invariant-loop-at l = last_line l.line l.entries ≡ last_line l.last (drop l.at-index l.entries)
