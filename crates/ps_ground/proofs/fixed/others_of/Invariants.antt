use Rattle.std.proofs.Common.{◌≡◌, ◌++◌, drop, not, filter}
use Rattle.std.specs.List.{list_any}
use Rattle.ps_world.specs.Names.{same_name}
use Rattle.ps_ground.proofs.fixed.others_of.Given as goal

-- those so far, with those that are kept of the facts that are left, are all that are kept
abbrev pub invariant-loop-fact : goal.invariant-loop-fact
invariant-loop-fact l =
    l.others.items ++ filter (λ f. not (list_any (same_name f.head) l.heads.keys)) (drop l.fact-index l.facts) ≡ filter (λ f. not (list_any (same_name f.head) l.heads.keys)) l.facts
