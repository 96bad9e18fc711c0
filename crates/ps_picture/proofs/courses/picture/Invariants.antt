use Rattle.std.proofs.Common.{◌≡◌, ◌++◌, drop}
use Rattle.ps_picture.specs.Courses.{picture_of}
use Rattle.ps_picture.proofs.courses.picture.Given as goal

-- the parts so far, and those of the entries left, are all
abbrev pub invariant-loop-i : goal.invariant-loop-i
invariant-loop-i l = l.courses.items ++ picture_of (drop l.i l.entries) ≡ picture_of l.entries
