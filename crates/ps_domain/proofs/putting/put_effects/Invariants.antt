use Rattle.std.proofs.Common.{◌≡◌, ◌≤◌, length, map, take, vec_capacity, vec_len}
use Rattle.ps_action.specs.Grounding.{put_spread}
use Rattle.ps_domain.proofs.putting.put_effects.Given as goal

-- what stands is what was put, and there is room for the rest
abbrev pub invariant-loop-spread : goal.invariant-loop-spread
invariant-loop-spread l = record {
  put : l.put.items ≡ map (put_spread l.args) (take l.spread-index l.effects);
  count : vec_len l.put ≡ l.spread-index;
  room : length l.effects ≤ vec_capacity l.put;
}
