use Rattle.std.proofs.Common.{◌≡◌, ◌*◌, ◌≤◌, min, length, drop}
use Rattle.ps_action.specs.Grounding.{picks}
use Rattle.ps_ground.proofs.acts.pick_count.Given as goal

-- the count so far, times that of the choices that are left, is that of all
abbrev pub invariant-loop-names : goal.invariant-loop-names
invariant-loop-names l = record {
  enough : l.count ≤ 50001;
  so_far : min 50001 (l.count * length (picks (drop l.names-index l.choices))) ≡ min 50001 (length (picks l.choices));
}
