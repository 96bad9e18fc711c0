use Rattle.std.proofs.Common.{codes, map}
use Rattle.ps_world.specs.Lines.{line_end}
use Rattle.ps_world.specs.DomainTexts.{spaced, param_text}
use Rattle.ps_print.proofs.Pieces.{closed_line_of}
use Rattle.ps_print.proofs.actions.write_parameters_line.Goals as goal

pub returns : goal.returns
returns c =
    closed_line_of c.args.text.now (codes ":parameters (") (spaced (map (param_text c.args.names.now) c.args.action.now.params)) (codes ")") line_end _ _ _ c.in_ok-extend_from_slice.ensures (rw c.as_slice.ensures at c.in_ok-write_params.ensures) c.in_ok-extend_from_slice-2.ensures
