use Rattle.std.proofs.Common.{◌≡◌, ◌++◌, drop}
use Rattle.ps_drawing.specs.Vectors.{rows_svg}
use Rattle.ps_drawing.proofs.vectors.push_rows.Given as goal

-- what is added so far, and the rows left from this height on, are all
abbrev pub invariant-loop-row : goal.invariant-loop-row
invariant-loop-row l =
    l.out.items ++ rows_svg l.names l.span l.y (drop l.row-index l.rows)
    ≡ l.initial.out.items ++ rows_svg l.names l.span l.top l.rows
