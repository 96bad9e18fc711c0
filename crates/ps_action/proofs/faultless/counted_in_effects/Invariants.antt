use Rattle.std.proofs.Common.{◌≡◌, ◌≤◌, map, drop}
use Rattle.ps_action.specs.Grounding.{put_effect}
use Rattle.ps_action.specs.Fine.{counted}
use Rattle.ps_action.proofs.faultless.counted_in_effects.Given as goal

-- what is left makes up the count
abbrev pub invariant-loop-effect : goal.invariant-loop-effect
invariant-loop-effect g l =
    record {
      few : l.count ≤ 2;
      whole : counted (g.P.Test.passed l.test) l.count (map (put_effect l.env) (drop l.effect-index l.effects)) ≡ counted (g.P.Test.passed l.test) l.start (map (put_effect l.env) l.effects);
    }
