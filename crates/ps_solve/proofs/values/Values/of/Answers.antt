use Rattle.std.proofs.Common.{◌∙◌}
use Rattle.ps_ground.proofs.Rising.{values_put}
use Rattle.ps_solve.proofs.values.Values.of.Goals as goal

pub returns : goal.returns
returns c = c.in_ok-insert_all.ensures ∙ values_put c.args.values.now c.requires
