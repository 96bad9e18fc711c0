use Rattle.std.proofs.Common.{◌≡◌, ◌+◌, ◌*◌, ◌++◌, flat_map, drop, length}
use Rattle.ps_action.specs.Bindings.{bindings, bindings_from}
use Rattle.ps_action.specs.Effects.{flat_guarded}
use Rattle.ps_action.proofs.unfolding.+bindings.Given as goal

-- one variable after another is bound
abbrev pub decreases-push_bindings : goal.decreases-push_bindings
decreases-push_bindings g l = 2 * length l.params.now

abbrev pub decreases-push_instance : goal.decreases-push_instance
decreases-push_instance g l = 2 * length l.rest.now + 1

abbrev pub invariant-push_bindings-loop-instance : goal.invariant-push_bindings-loop-instance
invariant-push_bindings-loop-instance g l =
    let d = g.T.Types.types l.types in
    let k = g.K.Known.known l.known in
    l.all.items ++ flat_map (λ e. flat_map (flat_guarded d k e) l.parts) (bindings_from d k.instances l.first l.rest l.env (drop l.instance-index l.instance-items))
    ≡ l.fn.all.items ++ flat_map (λ e. flat_map (flat_guarded d k e) l.parts) (bindings d k.instances l.params l.env)
