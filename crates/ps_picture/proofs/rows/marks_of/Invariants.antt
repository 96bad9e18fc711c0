use Rattle.std.proofs.Common.{◌≡◌, ◌++◌, drop}
use Rattle.ps_picture.specs.Rows.{marks_of}
use Rattle.ps_picture.proofs.rows.marks_of.Given as goal

-- the marks so far, and those of the entries left, are all
abbrev pub invariant-loop-line : goal.invariant-loop-line
invariant-loop-line l = l.marks.items ++ marks_of l.subject (drop l.line-index l.entries) ≡ marks_of l.subject l.entries
