use Rattle.std.proofs.Common.{◌<◌, Option, ap, sym, ◌∙◌, length, arith}
use Rattle.std.specs.Map.{lookup}
use Rattle.std.specs.Option.{option_map}
use Rattle.ps_world.specs.Knowledge.{same_fact}
use Rattle.ps_world.specs.declared.facts.Fact.{Fact}
use Rattle.ps_world.specs.declared.numbers.Num.{Num}
use Rattle.ps_undo.proofs.Gathering.{put_some, put_none}
use Rattle.ps_undo.proofs.changes.push_values.Goals as goal
use Rattle.ps_undo.proofs.changes.push_values.Goals.{in-Some+in_ok-push, in_default}

pub loop-term-preserved : goal.loop-term-preserved
loop-term-preserved c =
    let terms = c.args.terms.now in
    let i = c.loop-term.term-index in
    let term = c.term-item.result in
    let below : i < length terms = omega arith in
    let paired : Num → Fact × Num = λ x. (term, x) in
    let had : Fact → Option (Fact × Num) = λ f. option_map (λ x. (f, x)) (lookup (same_fact f) c.args.problem.now.values) in
    elim c.match-value.branch [
      | in-Some+in_ok-push w ↦
          put_some had terms i term below c.term-item.is c.args.out.now c.loop-term.out c.match-value.out c.loop-term.invariant (paired w.in-Some.value) (ap (option_map paired) (sym c.value.ensures ∙ w.in-Some.is)) (w.out-is ∙ w.in_ok-push.ensures.ok)
      | in_default w ↦
          put_none had terms i term below c.term-item.is c.args.out.now c.loop-term.out c.match-value.out c.loop-term.invariant (ap (option_map paired) (sym c.value.ensures ∙ w.in_default.is)) w.out-is
    ]
