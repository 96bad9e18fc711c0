use Rattle.std.proofs.Common.{◌≡◌, ◌≤◌, drop}
use Rattle.ps_action.specs.Effects.{flat}
use Rattle.ps_action.specs.Fine.{counted}
use Rattle.ps_action.proofs.faultless.counted.Given as goal

-- what is left makes up the count
abbrev pub invariant-loop-spread : goal.invariant-loop-spread
invariant-loop-spread g l =
    let d = g.T.Types.types l.types in
    let k = g.K.Known.known l.known in
    record {
      few : l.count ≤ 2;
      whole : counted (g.P.Test.passed l.test) l.count (flat d k (drop l.spread-index l.effects)) ≡ counted (g.P.Test.passed l.test) l.start (flat d k l.effects);
    }
