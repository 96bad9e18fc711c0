use Rattle.std.proofs.Common.{◌≡◌, drop, nat_eq}
use Rattle.std.specs.List.{list_any}
use Rattle.ps_action.specs.Plans.{most_acts}
use Rattle.ps_best_first.proofs.leaves.Leaves.has_last.Given as goal

-- none so far is as deep
abbrev pub invariant-loop-leaf : goal.invariant-loop-leaf
invariant-loop-leaf l = list_any (λ x. nat_eq x.depth most_acts) (drop l.leaf-index l.leaf-items) ≡ list_any (λ x. nat_eq x.depth most_acts) l.self
