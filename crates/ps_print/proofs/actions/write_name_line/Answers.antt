use Rattle.std.proofs.Common.{codes}
use Rattle.ps_world.specs.Lines.{line_end}
use Rattle.ps_world.specs.Names.{name_text}
use Rattle.ps_print.proofs.Pieces.{line_of}
use Rattle.ps_print.proofs.actions.write_name_line.Goals as goal

pub returns : goal.returns
returns c =
    line_of c.args.text.now (codes "(:durative-action ") (name_text c.args.names.now c.args.action.now.name) line_end _ _ _ c.in_ok-extend_from_slice.ensures c.in_ok-write_name.ensures c.in_ok-push.ensures
