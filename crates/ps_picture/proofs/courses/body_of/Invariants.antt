use Rattle.std.proofs.Common.{◌≡◌, ◌++◌, drop, take}
use Rattle.ps_picture.specs.Courses.{body_of}
use Rattle.ps_picture.proofs.courses.body_of.Given as goal

-- all entries so far are of the plan
abbrev pub invariant-loop-i : goal.invariant-loop-i
invariant-loop-i l = body_of l.entries ≡ take l.i l.entries ++ body_of (drop l.i l.entries)
