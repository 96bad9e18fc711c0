use Rattle.std.proofs.Common.{◌≡◌, take}
use Rattle.ps_world.proofs.conditions.+copy_cond.Given as goal

abbrev pub invariant-copy_conds-loop-cond : goal.invariant-copy_conds-loop-cond
invariant-copy_conds-loop-cond l = l.items.items ≡ take l.cond-index l.cond-items
