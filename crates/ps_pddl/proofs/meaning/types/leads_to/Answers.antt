use Rattle.std.proofs.Common.{◌≡◌, ◌+◌, ◌-◌, length, sym, ◌∙◌, arith, rules}
use Rattle.ps_pddl.proofs.Parents.{leads-up}
use Rattle.ps_pddl.proofs.meaning.types.leads_to.Goals as goal

pub loop-climbed-preserved : goal.loop-climbed-preserved
loop-climbed-preserved c =
    let d = c.args.d.now in
    let i = c.loop-climbed._climbed in
    let fewer : length d.types - (i + 1) ≡ length d.types - i - 1 = omega arith in
    rw fewer (sym (leads-up (length d.types - i) d c.loop-climbed.at c.in-Some.parent c.args.goal (omega arith) (search rules) (search rules) (search rules)) ∙ c.loop-climbed.invariant)
