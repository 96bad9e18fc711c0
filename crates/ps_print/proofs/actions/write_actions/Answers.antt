use Rattle.std.proofs.Common.{arith}
use Rattle.ps_world.specs.DomainTexts.{action_lines}
use Rattle.ps_print.proofs.Pieces.{lines_go_on}
use Rattle.ps_print.proofs.actions.write_actions.Goals as goal

pub loop-action-preserved : goal.loop-action-preserved
loop-action-preserved c =
    lines_go_on (action_lines c.args.names.now) c.args.actions.now c.loop-action.action-index c.action-item.result c.loop-action.text _ _ (omega arith) c.action-item.is c.loop-action.invariant c.in_ok-write_action.ensures
