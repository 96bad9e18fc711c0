use Rattle.std.proofs.Common.{◌≡◌, take, fold}
use Rattle.ps_problem.specs.Patches.{with_instance}
use Rattle.ps_problem.proofs.problem.instances.Instances.insert_all.Given as goal

abbrev pub invariant-loop-name : goal.invariant-loop-name
invariant-loop-name l = l.self ≡ fold with_instance l.fn.self (take l.name-index l.instances)
