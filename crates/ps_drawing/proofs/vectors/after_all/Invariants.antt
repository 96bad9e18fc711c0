use Rattle.std.proofs.Common.{◌≡◌, drop}
use Rattle.ps_drawing.specs.Vectors.{after_all}
use Rattle.ps_drawing.proofs.vectors.after_all.Given as goal

-- what comes after the plans left comes after all
abbrev pub invariant-loop-course : goal.invariant-loop-course
invariant-loop-course l = after_all l.y (drop l.course-index l.courses) ≡ after_all 0 l.courses
