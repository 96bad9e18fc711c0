use Rattle.std.proofs.Common.{◌≡◌, ◌+◌, ◌≤◌, drop}
use Rattle.ps_domain.proofs.Counts.{last_count}
use Rattle.ps_domain.proofs.counting.choice_count.Given as goal

abbrev pub invariant-loop-at : goal.invariant-loop-at
invariant-loop-at l = record { few : l.count ≤ l.at; so_far : l.count + last_count l.expert l.param.kind (drop l.at l.instances) ≡ last_count l.expert l.param.kind l.instances }
