use Rattle.std.proofs.Common.{arith, sym}
use Rattle.ps_state.proofs.Grounded.{grounds-step}
use Rattle.ps_state.proofs.taking.grounds_of.Goals as goal

pub loop-act-preserved : goal.loop-act-preserved
loop-act-preserved c =
    grounds-step c.args.expert.now c.args.acts.now c.loop-act.act-index c.act-item.result _ _ (omega arith) (sym c.act-item.is) c.loop-act.invariant c.in_ok-add_ground.ensures
