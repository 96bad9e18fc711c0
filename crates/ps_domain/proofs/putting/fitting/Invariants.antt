use Rattle.std.proofs.Common.{◌≡◌, ◌≤◌, ◌+◌, ◌++◌, drop, length, map, vec_capacity, vec_len}
use Rattle.ps_world.specs.CondViews.{cond_tree}
use Rattle.ps_action.specs.Grounding.{fitting}
use Rattle.ps_domain.proofs.putting.fitting.Given as goal

-- the conditions are those that stand, and those of the parameters that are left, for which there is room
abbrev pub invariant-loop-at : goal.invariant-loop-at
invariant-loop-at l = record {
  conds : map cond_tree l.fitting.items ++ fitting (drop l.at l.params) (drop l.at l.args) ≡ fitting l.params l.args;
  count : vec_len l.fitting ≡ l.at;
  room : length l.params + l.more ≤ vec_capacity l.fitting;
}
