use Rattle.std.proofs.Common.{◌≡◌, ◌∙◌, true, false, is_none, rules, refl, ap, sym}
use Rattle.std.proofs.lemmas.Result.{IfOk-weaker}
use Rattle.ps_planned.specs.Planned.{best_told}
use Rattle.ps_planned.proofs.Goals.{goalless, told_best}
use Rattle.ps_planned.proofs.asking.plan_told.Goals as goal

pub returns-then-is_none : goal.returns-then-is_none
returns-then-is_none g c =
    let d = c.args.expert.now in
    let k = c.args.problem.now in
    let lacks : is_none k.goal ≡ true = search rules in
    let told = goalless d k c.args.names.now c.args.budget lacks in
    rw (told, c.in_ok-text.ensures) refl

pub returns : goal.returns
returns g c =
    let d = c.args.expert.now in
    let k = c.args.problem.now in
    let has : is_none k.goal ≡ false = search rules in
    let told = ap (λ fs. best_told d k c.args.names.now fs) c.in_ok-chosen.ensures.answers ∙ sym (told_best d k c.args.names.now c.args.budget has) in
    IfOk-weaker c.best_told.result _ _ (λ t h. h ∙ told) c.best_told.ensures
