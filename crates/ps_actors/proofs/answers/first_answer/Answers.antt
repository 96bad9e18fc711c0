use Rattle.std.proofs.Common.{◌<◌, arith, sym, ◌∙◌}
use Rattle.ps_rules.specs.Auctions.{requests}
use Rattle.ps_rules.specs.Legal.{is_legal}
use Rattle.ps_actors.specs.Turns.{answers_on, first_legal}
use Rattle.ps_actors.proofs.First.{found-at, found-nowhere, none-more}
use Rattle.ps_actors.proofs.Hearing.{no-answer}
use Rattle.ps_actors.proofs.answers.first_answer.Goals as goal

pub loop-r-init : goal.loop-r-init
loop-r-init c = λ es o h k lt. sym (no-answer c.args.input.now es c.args.name k o.history o.live (h.heard k lt))

pub loop-r-preserved : goal.loop-r-preserved
loop-r-preserved c = λ es o h.
    none-more (λ k. first_legal c.args.input.now es (answers_on c.args.name k)) c.loop-r.r (c.loop-r.invariant es o h) (sym (c.answer_on.ensures.first es o) ∙ c.in-None.is)

pub returns-in-Some-clause-first : goal.returns-in-Some-clause-first
returns-in-Some-clause-first c = λ es o h.
    let same = c.count-count.ensures es o.kept.told.requests in
    let lt : c.loop-r.r < requests es = omega (arith, same, c.loop-r-test.true) in
    sym (found-at (is_legal c.args.input.now es) (answers_on c.args.name) 0 (requests es) c.loop-r.r c.in-Some.event
    (c.loop-r.invariant es o h) (omega arith) (omega (arith, lt)) (sym (c.answer_on.ensures.first es o) ∙ c.in-Some.is))

pub returns-clause-first : goal.returns-clause-first
returns-clause-first c = λ es o h.
    let same = c.count-count.ensures es o.kept.told.requests in
    sym (found-nowhere (is_legal c.args.input.now es) (answers_on c.args.name) 0 (requests es)
    (λ k lt. c.loop-r.invariant es o h k (omega (arith, lt, same, c.loop-r-test.false))))
