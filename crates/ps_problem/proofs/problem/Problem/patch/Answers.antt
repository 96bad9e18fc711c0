use Rattle.std.proofs.Common.{◌∙◌}
use Rattle.ps_problem.specs.Patches.{facts_after, values_after}
use Rattle.ps_problem.proofs.Patches.{all_made, any_changes}
use Rattle.ps_problem.proofs.problem.Problem.patch.Goals as goal

pub returns-clause-ok : goal.returns-clause-ok
returns-clause-ok c =
    let k = c.args.self.now in
    let known = c.in_ok-known.ensures.ok ∙ (λ i. record k { facts = facts_after k.facts (c.as_slice.ensures i) (c.as_slice-2.ensures i); values = values_after k.values (c.as_slice-3.ensures i) (c.as_slice-4.ensures i) }) in
    all_made k c.put_known.new.self c.take_instances-other.new.self c.take_goal-another.new.self c.args.change.now c.in_ok-instances.instances c.in_ok-goal.goal known c.take_instances-other.ensures.new c.take_goal-another.ensures.new c.in_ok-instances.ensures c.in_ok-goal.ensures

pub returns-clause-changed : goal.returns-clause-changed
returns-clause-changed c =
    any_changes c.args.self.now c.put_known.new.self c.take_instances-other.new.self c.take_goal-another.new.self _ _ _ _ c.in_ok-known.ensures.ok c.take_instances-other.ensures.new c.take_goal-another.ensures.new c.in_ok-known.known c.take_instances-other.result c.take_goal-another.result c.in_ok-known.ensures.changed c.take_instances-other.ensures.changed c.take_goal-another.ensures.changed
