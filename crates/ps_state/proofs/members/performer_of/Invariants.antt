use Rattle.std.proofs.Common.{◌≡◌, drop, find, filter_map}
use Rattle.ps_world.specs.Names.{same_name}
use Rattle.ps_rules.specs.Members.{as_performer, performer_of}
use Rattle.ps_state.proofs.members.performer_of.Given as goal

abbrev pub invariant-loop-member : goal.invariant-loop-member
invariant-loop-member l =
    performer_of l.input l.name ≡ find (λ p. same_name l.name p.name) (filter_map as_performer (drop l.member-index l.member-items))
