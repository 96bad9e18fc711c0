use Rattle.std.proofs.Common.{refl}
use Rattle.ps_action.specs.declared.acts.GroundAction.{GroundAction}
use Rattle.ps_ground.proofs.Settled.{alike_moves}
use Rattle.ps_ground.proofs.light.lighten.Goals as goal

pub returns-clause-moves : goal.returns-clause-moves
returns-clause-moves g c =
    let action = c.args.action.now in
    let light : GroundAction = record {
      act = action.act;
      duration = action.duration;
      conditions = record { at_start = c.lighten_conds.new.conds; over_all = c.lighten_conds-2.new.conds; at_end = c.lighten_conds-3.new.conds };
      effects = action.effects;
    } in
    alike_moves (g.T.Types.types c.args.types.now) (g.K.Known.known c.args.given.now) light action c.in_ok-lighten_conds.ensures c.in_ok-lighten_conds-2.ensures c.in_ok-lighten_conds-3.ensures refl refl refl
