use Rattle.std.proofs.Common.{◌≡◌, ◌++◌, drop}
use Rattle.std.specs.List.{flat_map}
use Rattle.ps_drawing.specs.Vectors.{mark_svg}
use Rattle.ps_drawing.proofs.vectors.push_marks.Given as goal

-- what is added so far, and the texts of those left, are all
abbrev pub invariant-loop-mark : goal.invariant-loop-mark
invariant-loop-mark l =
    l.out.items ++ flat_map (mark_svg l.span l.y) (drop l.mark-index l.marks)
    ≡ l.initial.out.items ++ flat_map (mark_svg l.span l.y) l.marks
