use Rattle.std.proofs.Common.{refl}
use Rattle.ps_world.specs.DomainTexts.{action_lines}
use Rattle.ps_print.proofs.Pieces.{five_lines}
use Rattle.ps_print.proofs.actions.write_action.Goals as goal

pub returns : goal.returns
returns c =
    five_lines (action_lines c.args.names.now c.args.action.now) c.args.text.now _ _ _ _ _ refl c.in_ok-write_name_line.ensures c.in_ok-write_parameters_line.ensures c.in_ok-write_duration_line.ensures c.in_ok-write_condition_line.ensures c.in_ok-write_effect_line.ensures
