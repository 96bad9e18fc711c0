use Rattle.std.proofs.Common.{nat_eq, ap, ◌∙◌}
use Rattle.ps_action.specs.Effects.{flat}
use Rattle.ps_action.proofs.Fine.{faultless_counted}
use Rattle.ps_action.proofs.faultless.is_faultless.Goals as goal

pub returns : goal.returns
returns g c =
    let d = g.T.Types.types c.args.types.now in
    let k = g.K.Known.known c.args.known.now in
    ap (λ n. nat_eq n 1) c.counted.ensures.count ∙ faultless_counted k (flat d k c.args.effects.now)
