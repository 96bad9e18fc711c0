use Rattle.std.proofs.Common.{◌≡◌, drop, find, filter_map}
use Rattle.ps_world.specs.Names.{same_name}
use Rattle.ps_rules.specs.Members.{as_observer, observer_of}
use Rattle.ps_state.proofs.members.observer_of.Given as goal

abbrev pub invariant-loop-member : goal.invariant-loop-member
invariant-loop-member l =
    observer_of l.input l.name ≡ find (λ o. same_name l.name o.name) (filter_map as_observer (drop l.member-index l.member-items))
