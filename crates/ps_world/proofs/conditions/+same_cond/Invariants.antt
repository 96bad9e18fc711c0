use Rattle.std.proofs.Common.{◌≡◌, drop}
use Rattle.ps_world.specs.Same.{is_same}
use Rattle.ps_world.specs.Trees.{conds_code}
use Rattle.ps_world.proofs.conditions.+same_cond.Given as goal

abbrev pub invariant-is_same_conds-loop-i : goal.invariant-is_same_conds-loop-i
invariant-is_same_conds-loop-i l = is_same conds_code (drop l.i l.a) (drop l.i l.b) ≡ is_same conds_code l.a l.b
