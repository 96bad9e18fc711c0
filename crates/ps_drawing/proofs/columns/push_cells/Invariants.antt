use Rattle.std.proofs.Common.{◌≡◌, ◌-◌, ◌≤◌, ◌++◌}
use Rattle.ps_drawing.specs.Columns.{cells_from}
use Rattle.ps_drawing.proofs.columns.push_cells.Given as goal

-- the columns so far, and those left, are all
abbrev pub invariant-loop-column : goal.invariant-loop-column
invariant-loop-column l = record {
  within : l.column ≤ l.count;
  cells : l.out.items ++ cells_from l.span l.row l.column (l.count - l.column)
      ≡ l.initial.out.items ++ cells_from l.span l.row 0 l.count;
}
