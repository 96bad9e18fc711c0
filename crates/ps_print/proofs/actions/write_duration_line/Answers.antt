use Rattle.std.proofs.Common.{codes}
use Rattle.ps_world.specs.Lines.{line_end}
use Rattle.ps_world.specs.ExprViews.{expr_tree}
use Rattle.ps_world.specs.DomainTexts.{expr_text}
use Rattle.ps_print.proofs.Pieces.{closed_line_of}
use Rattle.ps_print.proofs.actions.write_duration_line.Goals as goal

pub returns : goal.returns
returns c =
    closed_line_of c.args.text.now (codes ":duration (= ?duration ") (expr_text c.args.names.now c.args.action.now.params (expr_tree c.args.action.now.duration)) (codes ")") line_end _ _ _ c.in_ok-extend_from_slice.ensures (rw c.as_slice.ensures at c.in_ok-write_expression.ensures) c.in_ok-extend_from_slice-2.ensures
