use Rattle.std.proofs.Common.{◌≡◌, ◌+◌, ◌<◌, ◌≤◌, length}
use Rattle.ps_world.specs.Lines.{lines_of}
use Rattle.ps_plan.specs.PlanText.{fault_from}
use Rattle.ps_plan.proofs.faults.plan_fault.Given as goal

abbrev pub invariant-loop-rest : goal.invariant-loop-rest
invariant-loop-rest l = record {
  left : fault_from 1 0 (lines_of l.bytes) ≡ fault_from l.n l.count (lines_of l.rest);
  within : l.n + length l.rest ≤ length l.bytes + 1;
  few : l.count < l.n;
}

abbrev pub decreases-loop-rest : goal.decreases-loop-rest
decreases-loop-rest l = length l.rest
