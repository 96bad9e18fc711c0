use Rattle.std.proofs.Common.{◌<◌, arith, sym, ◌∙◌}
use Rattle.ps_rules.specs.Auctions.{requests}
use Rattle.ps_rules.specs.Legal.{is_legal}
use Rattle.ps_actors.specs.Ticks.{on_request}
use Rattle.ps_actors.specs.Turns.{first_legal}
use Rattle.ps_actors.proofs.First.{found-at, found-nowhere, none-more}
use Rattle.ps_actors.proofs.Ticking.{older}
use Rattle.ps_actors.proofs.requests.first_on_requests.Goals as goal

pub loop-r-init : goal.loop-r-init
loop-r-init c = λ i es o k lt. older i es c.args.state.now c.args.about k o.kept o.live lt

pub loop-r-preserved : goal.loop-r-preserved
loop-r-preserved c = λ i es o.
    none-more (λ k. first_legal i es (on_request c.args.about es k)) c.loop-r.r (c.loop-r.invariant i es o) (sym (c.on_request.ensures.first i es o) ∙ c.in-None.is)

pub returns-in-Some-clause-first : goal.returns-in-Some-clause-first
returns-in-Some-clause-first c = λ i es o.
    let same = c.count-count.ensures es o.kept.told.requests in
    let lt : c.loop-r.r < requests es = omega (arith, same, c.loop-r-test.true) in
    sym (found-at (is_legal i es) (on_request c.args.about es) 0 (requests es) c.loop-r.r c.in-Some.event
    (c.loop-r.invariant i es o) (omega arith) (omega (arith, lt)) (sym (c.on_request.ensures.first i es o) ∙ c.in-Some.is))

pub returns-clause-first : goal.returns-clause-first
returns-clause-first c = λ i es o.
    let same = c.count-count.ensures es o.kept.told.requests in
    sym (found-nowhere (is_legal i es) (on_request c.args.about es) 0 (requests es)
    (λ k lt. c.loop-r.invariant i es o k (omega (arith, lt, same, c.loop-r-test.false))))
