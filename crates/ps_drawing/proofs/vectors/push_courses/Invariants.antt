use Rattle.std.proofs.Common.{◌≡◌, ◌++◌, drop}
use Rattle.ps_drawing.specs.Vectors.{courses_svg}
use Rattle.ps_drawing.proofs.vectors.push_courses.Given as goal

-- what is added so far, and the plans left from this height on, are all
abbrev pub invariant-loop-course : goal.invariant-loop-course
invariant-loop-course l =
    l.out.items ++ courses_svg l.names l.y (drop l.course-index l.courses)
    ≡ l.initial.out.items ++ courses_svg l.names 0 l.courses
