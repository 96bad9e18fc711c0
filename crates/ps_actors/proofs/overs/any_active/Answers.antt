use Rattle.std.proofs.Common.{◌<◌, length, arith, sym, ◌∙◌}
use Rattle.ps_rules.specs.Runs.{plan}
use Rattle.ps_actors.proofs.Skipping.{not-settled}
use Rattle.ps_actors.proofs.overs.any_active.Goals as goal

pub returns-then-is_active : goal.returns-then-is_active
returns-then-is_active c = λ i es kept h.
    let same = c.count-act-end.ensures.count i es kept in
    let lt : c.loop-act.act < length (plan es) = omega (arith, same, c.loop-act-test.true) in
    not-settled i es c.loop-act.act lt (sym (c.is_active.ensures es kept.told.acts) ∙ c.if-is_active.true)

pub returns : goal.returns
returns c = λ i es kept h. absurd (cc)
