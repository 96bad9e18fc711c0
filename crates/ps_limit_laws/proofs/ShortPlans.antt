-- A plan that is read is short.
use Rattle.ps_plan.proofs.PlanNames.{IsPlan-few}
use Rattle.ps_limit_laws.specs.Sound.{PlansAreShort}

pub plans_are_short : PlansAreShort
plans_are_short table bytes steps after plan = IsPlan-few table bytes steps after plan
