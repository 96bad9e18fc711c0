use Rattle.std.proofs.Common.{◌∙◌, sym}
use Rattle.ps_plan.specs.PlanText.{IsPlan}
use Rattle.ps_plan.proofs.PlanNames.{IsPlan-few, IsPlan-grows, IsPlan-named}
use Rattle.ps_plan.proofs.reading.read_plan.Goals as goal
use Rattle.ps_plan.proofs.reading.read_plan.Goals.{In_ok-steps}

is_plan : (c : In_ok-steps) → IsPlan c.args.names.now c.args.bytes.now c.in_ok-steps.steps.items c.read_all_steps.new.names
is_plan c =
    record {
      faultless = sym c.plan_fault.ensures ∙ c.in_default.is;
      steps_are = c.in_ok-steps.ensures.steps;
    }

pub returns-clause-few : goal.returns-clause-few
returns-clause-few c = IsPlan-few _ _ _ _ (is_plan (goal.at.returns-clause-few c).In_ok-steps)

pub returns-clause-named : goal.returns-clause-named
returns-clause-named c = IsPlan-named _ _ _ _ (is_plan (goal.at.returns-clause-named c).In_ok-steps)

pub returns-clause-grows : goal.returns-clause-grows
returns-clause-grows c = IsPlan-grows _ _ _ _ (is_plan (goal.at.returns-clause-grows c).In_ok-steps)
