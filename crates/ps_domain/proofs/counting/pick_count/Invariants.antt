use Rattle.std.proofs.Common.{◌≡◌, ◌*◌, ◌≤◌, min, length, map, drop}
use Rattle.ps_action.specs.Grounding.{choices, picks}
use Rattle.ps_domain.proofs.counting.pick_count.Given as goal

abbrev pub invariant-loop-param : goal.invariant-loop-param
invariant-loop-param l = record {
  enough : l.count ≤ 50001;
  so_far : min 50001 (l.count * length (picks (map (choices l.expert l.instances) (drop l.param-index l.params)))) ≡ min 50001 (length (picks (map (choices l.expert l.instances) l.params)));
}
