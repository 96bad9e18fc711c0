use Rattle.std.proofs.Common.{◌≡◌, ◌≤◌, flat_map, drop}
use Rattle.ps_action.specs.Effects.{flat_guarded}
use Rattle.ps_action.specs.Fine.{counted}
use Rattle.ps_action.proofs.faultless.counted_in_parts.Given as goal

-- what is left makes up the count
abbrev pub invariant-loop-part : goal.invariant-loop-part
invariant-loop-part g l =
    let d = g.T.Types.types l.types in
    let k = g.K.Known.known l.known in
    record {
      few : l.count ≤ 2;
      whole : counted (g.P.Test.passed l.test) l.count (flat_map (flat_guarded d k l.env) (drop l.part-index l.parts)) ≡ counted (g.P.Test.passed l.test) l.start (flat_map (flat_guarded d k l.env) l.parts);
    }
