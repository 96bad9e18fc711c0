use Rattle.std.proofs.Common.{◌≡◌, ◌≤◌, ◌+◌, ◌*◌, flat_map, drop, length}
use Rattle.ps_action.specs.Bindings.{bindings, bindings_from}
use Rattle.ps_action.specs.Effects.{flat_guarded}
use Rattle.ps_action.specs.Fine.{counted}
use Rattle.ps_action.proofs.faultless.+bindings.Given as goal

-- one variable after another is bound
abbrev pub decreases-counted_in_bindings : goal.decreases-counted_in_bindings
decreases-counted_in_bindings g l = 2 * length l.params.now

abbrev pub decreases-counted_from : goal.decreases-counted_from
decreases-counted_from g l = 2 * length l.rest.now + 1

-- the instances that are left make up the count
abbrev pub invariant-counted_in_bindings-loop-instance : goal.invariant-counted_in_bindings-loop-instance
invariant-counted_in_bindings-loop-instance g l =
    let d = g.T.Types.types l.types in
    let k = g.K.Known.known l.known in
    let left = bindings_from d k.instances l.first l.rest l.env (drop l.instance-index l.instance-items) in
    record {
      few : l.count ≤ 2;
      whole : counted (g.P.Test.passed l.test) l.count (flat_map (λ e. flat_map (flat_guarded d k e) l.parts) left) ≡ counted (g.P.Test.passed l.test) l.start (flat_map (λ e. flat_map (flat_guarded d k e) l.parts) (bindings d k.instances l.params l.env));
    }
