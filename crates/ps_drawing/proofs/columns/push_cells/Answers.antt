use Rattle.std.proofs.Common.{◌∷◌, [], ◌++◌, ℕ, ap, ◌∙◌, arith}
use Rattle.ps_drawing.proofs.Counting.{cells_more, piece-more}
use Rattle.ps_drawing.proofs.columns.push_cells.Goals as goal

pub loop-column-preserved : goal.loop-column-preserved
loop-column-preserved c = record {
  within = omega arith;
  cells = piece-more c.loop-column.out.items _ _ _ _ _
      (c.in_ok-push.ensures.items ∙ ap (λ (x : ℕ). c.loop-column.out.items ++ x ∷ []) c.cell_of.ensures)
      (cells_more c.args.span c.args.row.now c.loop-column.column c.args.count (omega arith)) c.loop-column.invariant.cells;
}
