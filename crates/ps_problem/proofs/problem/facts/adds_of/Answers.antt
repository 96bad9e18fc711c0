use Rattle.std.proofs.Common.{◌<◌, sym, ◌∙◌, length, arith}
use Rattle.ps_action.specs.Effects.{added_by}
use Rattle.ps_problem.proofs.Gathered.{gathered_some, gathered_none}
use Rattle.ps_problem.proofs.problem.facts.adds_of.Goals as goal
use Rattle.ps_problem.proofs.problem.facts.adds_of.Goals.{in-Some+in_ok-push, in_default}

pub loop-effect-preserved : goal.loop-effect-preserved
loop-effect-preserved c =
    let es = c.args.effects.now in
    let i = c.loop-effect.effect-index in
    let below : i < length es = omega arith in
    elim c.match-added.branch [
      | in-Some+in_ok-push w ↦
          let more = gathered_some added_by es i c.effect-item.result below c.effect-item.is w.in-Some.fact (sym c.added.ensures ∙ w.in-Some.is) in
          cc (w.in_ok-push.ensures.items, more, c.loop-effect.invariant)
      | in_default w ↦
          let more = gathered_none added_by es i c.effect-item.result below c.effect-item.is (sym c.added.ensures ∙ w.in_default.is) in
          cc (more, c.loop-effect.invariant)
    ]
