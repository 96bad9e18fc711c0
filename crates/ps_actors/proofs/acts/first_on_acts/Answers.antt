use Rattle.std.proofs.Common.{◌<◌, length, arith, sym, ◌∙◌}
use Rattle.ps_rules.specs.Legal.{is_legal}
use Rattle.ps_rules.specs.Runs.{plan}
use Rattle.ps_actors.specs.Ticks.{on_act}
use Rattle.ps_actors.specs.Turns.{first_legal}
use Rattle.ps_actors.proofs.First.{found-at, found-nowhere, none-more}
use Rattle.ps_actors.proofs.acts.first_on_acts.Goals as goal

pub loop-act-preserved : goal.loop-act-preserved
loop-act-preserved c = λ es o.
    none-more (λ k. first_legal c.args.input.now es (on_act c.args.about es k)) c.loop-act.act (c.loop-act.invariant es o) (sym (c.on_act.ensures.first es o) ∙ c.in-None.is)

pub returns-in-Some-clause-first : goal.returns-in-Some-clause-first
returns-in-Some-clause-first c = λ es o.
    let same = c.count-act-end.ensures.count c.args.input.now es o.kept in
    let lt : c.loop-act.act < length (plan es) = omega (arith, same, c.loop-act-test.true) in
    sym (found-at (is_legal c.args.input.now es) (on_act c.args.about es) 0 (length (plan es)) c.loop-act.act c.in-Some.event
    (c.loop-act.invariant es o) (omega arith) (omega (arith, lt)) (sym (c.on_act.ensures.first es o) ∙ c.in-Some.is))

pub returns-clause-first : goal.returns-clause-first
returns-clause-first c = λ es o.
    let same = c.count-act-end.ensures.count c.args.input.now es o.kept in
    sym (found-nowhere (is_legal c.args.input.now es) (on_act c.args.about es) 0 (length (plan es))
    (λ k lt. c.loop-act.invariant es o k (omega (arith, lt, same, c.loop-act-test.false))))
