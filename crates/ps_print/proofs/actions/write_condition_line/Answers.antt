use Rattle.std.proofs.Common.{codes}
use Rattle.ps_world.specs.Lines.{line_end}
use Rattle.ps_world.specs.DomainTexts.{conditions_text}
use Rattle.ps_print.proofs.Pieces.{closed_line_of}
use Rattle.ps_print.proofs.actions.write_condition_line.Goals as goal

pub returns : goal.returns
returns c =
    closed_line_of c.args.text.now (codes ":condition (and") (conditions_text c.args.names.now c.args.action.now) (codes ")") line_end _ _ _ c.in_ok-extend_from_slice.ensures c.in_ok-write_conditions_of.ensures c.in_ok-extend_from_slice-2.ensures
