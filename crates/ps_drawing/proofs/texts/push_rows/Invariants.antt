use Rattle.std.proofs.Common.{◌≡◌, ◌++◌, drop}
use Rattle.std.specs.List.{flat_map}
use Rattle.ps_drawing.specs.Texts.{row_text}
use Rattle.ps_drawing.proofs.texts.push_rows.Given as goal

-- what is added so far, and the texts of those left, are all
abbrev pub invariant-loop-row : goal.invariant-loop-row
invariant-loop-row l =
    l.out.items ++ flat_map (row_text l.names l.span) (drop l.row-index l.rows)
    ≡ l.initial.out.items ++ flat_map (row_text l.names l.span) l.rows
