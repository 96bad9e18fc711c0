use Rattle.std.proofs.Common.{◌≡◌, [], take, fold}
use Rattle.ps_action.specs.Grounding.{with_named}
use Rattle.ps_ground.proofs.acts.put_by_name.Given as goal

abbrev pub invariant-loop-name : goal.invariant-loop-name
invariant-loop-name l = l.sorted.entries ≡ fold with_named [] (take l.name-index l.instances)
