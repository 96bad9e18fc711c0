use Rattle.std.proofs.Common.{◌≡◌, filter_map, map, take}
use Rattle.ps_rules.specs.Members.{as_performer}
use Rattle.ps_state.proofs.taking.performer_names.Given as goal

abbrev pub invariant-loop-member : goal.invariant-loop-member
invariant-loop-member l = l.names.items ≡ map (λ p. p.name) (filter_map as_performer (take l.member-index l.member-items))
