use Rattle.std.proofs.Common.{◌≡◌, ◌+◌, ◌-◌, length, sym, ap, ◌∙◌, arith, rules}
use Rattle.ps_world.specs.declared.domains.Domain.{Domain}
use Rattle.ps_world.proofs.Climbs.{climbs-up}
use Rattle.ps_domain.proofs.declared.Declared.is_below.Goals as goal

pub loop-climbed-preserved : goal.loop-climbed-preserved
loop-climbed-preserved c =
    let d = c.args.self.now in
    let i = c.loop-climbed._climbed in
    let opened : length c.self.inside.domain.types ≡ length d.types = ap (λ (x : Domain). length x.types) c.self.view_is in
    let fewer : length d.types - (i + 1) ≡ length d.types - i - 1 = omega arith in
    rw fewer (sym (climbs-up (length d.types - i) d c.loop-climbed.at c.in-Some.parent c.args.high (omega arith) (search rules) (search rules)) ∙ c.loop-climbed.invariant)
