use Rattle.std.proofs.Common.{◌≡◌, ◌∷◌, ◌++◌, ◌+◌, List, drop, ap, sym, ◌∙◌, arith}
use Rattle.std.proofs.lemmas.List.{drop_more}
use Rattle.ps_action.specs.declared.acts.Act.{Act}
use Rattle.ps_action.specs.Plans.{timed_from}
use Rattle.ps_plan.proofs.timing.push_steps.Goals as goal

pub loop-act-preserved : goal.loop-act-preserved
loop-act-preserved c =
    let acts = c.args.acts.now in
    let i = c.loop-act.act-index in
    let act = c.act-item.result in
    let split : drop i acts ≡ act ∷ drop (i + 1) acts = drop_more acts i act (omega arith) ∙ ap (λ (a : Act). a ∷ drop (i + 1) acts) (sym c.act-item.is) in
    let made = rw c.in-Some.is at (c.in_ok-next.ensures.steps (drop (i + 1) acts)) in
    record {
      left = made ∙ ap (λ (xs : List Act). c.loop-act.steps.items ++ timed_from c.args.expert.now c.loop-act.problem c.loop-act.time xs) (sym split) ∙ c.loop-act.invariant.left;
      in_range = λ h. c.in_ok-next.ensures.in_range (c.loop-act.invariant.in_range h);
    }
