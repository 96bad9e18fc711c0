use Rattle.std.proofs.Common.{arith, subst, sym, ◌∙◌}
use Rattle.ps_actors.proofs.Hearing.{answered-more, answered-start, HasAnsweredBelow}
use Rattle.ps_actors.proofs.heard.heard_upto.Goals as goal

pub loop-r-init : goal.loop-r-init
loop-r-init c = λ i es s h.
    subst (λ n. HasAnsweredBelow c.args.name n es) (sym c.max-start.ensures)
    (answered-start es c.args.state.now.ledger.requests c.args.name c.args.from s.told.requests h)

pub loop-r-preserved : goal.loop-r-preserved
loop-r-preserved c = λ i es s h.
    answered-more es c.args.name c.loop-r.r (c.loop-r.invariant i es s h) (sym (c.has_answered.ensures es s.told) ∙ c.if-not-has_answered.false)

pub returns-then-not-has_answered-clause-heard : goal.returns-then-not-has_answered-clause-heard
returns-then-not-has_answered-clause-heard c = λ i es s h.
    let same = c.count-count.ensures es s.told.requests in
    record { heard = c.loop-r.invariant i es s h; there = omega (arith, same, c.loop-r-test.true) }

pub returns-then-not-has_answered-clause-last : goal.returns-then-not-has_answered-clause-last
returns-then-not-has_answered-clause-last c = λ i es s lt. sym (c.has_answered.ensures es s.told) ∙ c.if-not-has_answered.true

pub returns-clause-heard : goal.returns-clause-heard
returns-clause-heard c = λ i es s h.
    let same = c.count-count.ensures es s.told.requests in
    record {
      heard = λ k lt. c.loop-r.invariant i es s h k (omega (arith, lt, same, c.loop-r-test.false));
      there = omega (arith, same);
    }

pub returns-clause-last : goal.returns-clause-last
returns-clause-last c = λ i es s lt.
    let same = c.count-count.ensures es s.told.requests in
    absurd (omega (arith, lt, same))
