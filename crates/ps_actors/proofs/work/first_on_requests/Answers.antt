use Rattle.std.proofs.Common.{◌<◌, None, Some, [], ◌∷◌, ap, arith, refl, sym, ◌∙◌}
use Rattle.std.proofs.lemmas.List.Concat.{flat_map_single}
use Rattle.ps_rules.specs.Auctions.{requests}
use Rattle.ps_rules.specs.Choices.{all_requests}
use Rattle.ps_rules.specs.Legal.{is_legal}
use Rattle.ps_actors.specs.Turns.{first_legal, work_event}
use Rattle.ps_actors.proofs.First.{found-at, found-nowhere, none-more}
use Rattle.ps_actors.proofs.Fitting.{first-is, first-later}
use Rattle.ps_actors.proofs.Older.{nothing-due, older, own}
use Rattle.ps_actors.proofs.work.first_on_requests.Goals as goal

pub loop-r-init : goal.loop-r-init
loop-r-init c = λ i es o k lt. nothing-due i es c.args.about c.args.name k o.live (older i es c.args.state.now c.args.name k o.kept lt)

pub loop-r-preserved : goal.loop-r-preserved
loop-r-preserved c = λ i es o.
    none-more (λ k. first_legal i es (work_event c.args.about c.args.name k ∷ [])) c.loop-r.r (c.loop-r.invariant i es o)
    (sym (first-later i es (work_event c.args.about c.args.name c.loop-r.r) [] None o.live (own c.args.about c.args.name c.loop-r.r)
    (sym c.if-may_do.false ∙ c.may_do.ensures i es o.kept) refl))

pub returns-then-may_do-clause-first : goal.returns-then-may_do-clause-first
returns-then-may_do-clause-first c = λ i es o.
    let same = c.count-count.ensures es o.kept.told.requests in
    let lt : c.loop-r.r < requests es = omega (arith, same, c.loop-r-test.true) in
    ap Some c.work_event.ensures.event
    ∙ sym (ap (first_legal i es) (sym (flat_map_single (work_event c.args.about c.args.name) (all_requests es)))
    ∙ found-at (is_legal i es) (λ k. work_event c.args.about c.args.name k ∷ []) 0 (requests es) c.loop-r.r (work_event c.args.about c.args.name c.loop-r.r)
    (c.loop-r.invariant i es o) (omega arith) (omega (arith, lt))
    (sym (first-is i es (work_event c.args.about c.args.name c.loop-r.r) [] o.live (own c.args.about c.args.name c.loop-r.r) (sym c.if-may_do.true ∙ c.may_do.ensures i es o.kept))))

pub returns-clause-first : goal.returns-clause-first
returns-clause-first c = λ i es o.
    let same = c.count-count.ensures es o.kept.told.requests in
    sym (ap (first_legal i es) (sym (flat_map_single (work_event c.args.about c.args.name) (all_requests es)))
    ∙ found-nowhere (is_legal i es) (λ k. work_event c.args.about c.args.name k ∷ []) 0 (requests es)
    (λ k lt. c.loop-r.invariant i es o k (omega (arith, lt, same, c.loop-r-test.false))))
