use Rattle.std.proofs.Common.{◌≡◌, ◌↔◌, true, sym, subst}
use Rattle.ps_problem.proofs.Goals.{same_goal}
use Rattle.ps_problem.proofs.problem.patches.is_same.Goals as goal

pub returns-in-Some-Some : goal.returns-in-Some-Some
returns-in-Some-Some c =
    let some = c.in-Some-Some in
    let told = same_goal some.one some.other c.args.one.now c.eq.result some.is-0 c.eq.ensures in
    subst (λ g. (c.eq.result ≡ true) ↔ (c.args.one.now ≡ g)) (sym some.is-1) told
