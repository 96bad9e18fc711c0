use Rattle.std.proofs.Common.{◌≡◌, take, fold}
use Rattle.ps_problem.specs.Puts.{without_instance}
use Rattle.ps_problem.proofs.problem.instances.Instances.remove_all.Given as goal

abbrev pub invariant-loop-name : goal.invariant-loop-name
invariant-loop-name l = l.self ≡ fold without_instance l.fn.self (take l.name-index l.names)
