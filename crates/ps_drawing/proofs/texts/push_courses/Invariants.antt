use Rattle.std.proofs.Common.{◌≡◌, ◌++◌, drop}
use Rattle.std.specs.List.{flat_map}
use Rattle.ps_drawing.specs.Texts.{course_text}
use Rattle.ps_drawing.proofs.texts.push_courses.Given as goal

-- what is added so far, and the texts of those left, are all
abbrev pub invariant-loop-course : goal.invariant-loop-course
invariant-loop-course l =
    l.out.items ++ flat_map (course_text l.names) (drop l.course-index l.courses)
    ≡ l.initial.out.items ++ flat_map (course_text l.names) l.courses
