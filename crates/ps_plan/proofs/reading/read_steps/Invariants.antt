use Rattle.std.proofs.Common.{◌≡◌, [], length}
use Rattle.ps_text.specs.Names.{Keeps}
use Rattle.ps_plan.specs.PlanText.{planned, said_by}
use Rattle.ps_plan.proofs.reading.read_steps.Given as goal

-- the steps are those of all lines if those that stand are gone on with by the lines that are left; old names keep their texts
abbrev pub invariant-loop-rest : goal.invariant-loop-rest
invariant-loop-rest l = record {
  steps : planned l.fn.names [] (said_by l.bytes) ≡ planned l.names l.steps.items (said_by l.rest);
  kept : Keeps l.fn.names l.names;
}

abbrev pub decreases-loop-rest : goal.decreases-loop-rest
decreases-loop-rest l = length l.rest
