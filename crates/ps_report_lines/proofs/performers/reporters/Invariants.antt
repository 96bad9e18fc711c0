use Rattle.std.proofs.Common.{◌≡◌, filter_map, map, take}
use Rattle.ps_rules.specs.Members.{as_performer}
use Rattle.ps_report_lines.proofs.performers.reporters.Given as goal

abbrev pub invariant-loop-member : goal.invariant-loop-member
invariant-loop-member l = l.who.items ≡ map (λ p. p.name) (filter_map as_performer (take l.member-index l.member-items))
