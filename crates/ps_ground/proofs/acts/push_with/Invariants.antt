use Rattle.std.proofs.Common.{◌≡◌, ◌++◌, drop, map}
use Rattle.ps_ground.specs.Acts.{act_with}
use Rattle.ps_ground.proofs.acts.push_with.Given as goal

-- the acts so far, with those that are left, are all
abbrev pub invariant-loop-args : goal.invariant-loop-args
invariant-loop-args l = l.all.items ++ map (act_with l.action) (drop l.args-index l.lists) ≡ l.fn.all.items ++ map (act_with l.action) l.lists
