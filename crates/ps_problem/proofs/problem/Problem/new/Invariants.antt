use Rattle.std.proofs.Common.{◌≡◌, [], take, fold}
use Rattle.ps_world.specs.Knowledge.{with_constant}
use Rattle.ps_problem.proofs.problem.Problem.new.Given as goal

abbrev pub invariant-loop-constant : goal.invariant-loop-constant
invariant-loop-constant l = l.instances ≡ fold with_constant [] (take l.constant-index l.constant-items)
