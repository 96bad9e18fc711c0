use Rattle.std.proofs.Common.{◌≡◌, ◌+◌, ◌*◌, ◌++◌, flat_map, drop, length}
use Rattle.ps_action.specs.Bindings.{bindings, bindings_from}
use Rattle.ps_ground.specs.Atoms.{may_add_part}
use Rattle.ps_ground.proofs.atoms.+bindings.Given as goal

-- one variable after another is bound
abbrev pub decreases-push_bound_adds : goal.decreases-push_bound_adds
decreases-push_bound_adds l = 2 * length l.params.now

abbrev pub decreases-push_instance_adds : goal.decreases-push_instance_adds
decreases-push_instance_adds l = 2 * length l.rest.now + 1

abbrev pub invariant-push_bound_adds-loop-instance : goal.invariant-push_bound_adds-loop-instance
invariant-push_bound_adds-loop-instance l =
    l.facts.items ++ flat_map (λ e. flat_map (may_add_part e) l.parts) (bindings_from l.expert l.problem.instances l.first l.rest l.env (drop l.instance-index l.instance-items))
    ≡ l.fn.facts.items ++ flat_map (λ e. flat_map (may_add_part e) l.parts) (bindings l.expert l.problem.instances l.params l.env)
