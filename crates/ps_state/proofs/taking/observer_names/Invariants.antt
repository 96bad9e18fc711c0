use Rattle.std.proofs.Common.{◌≡◌, filter_map, map, take}
use Rattle.ps_rules.specs.Members.{as_observer}
use Rattle.ps_state.proofs.taking.observer_names.Given as goal

abbrev pub invariant-loop-member : goal.invariant-loop-member
invariant-loop-member l = l.names.items ≡ map (λ o. o.name) (filter_map as_observer (take l.member-index l.member-items))
