use Rattle.std.proofs.Common.{◌≡◌, ℕ, List, ◌++◌, [], ◌∷◌, ◌+◌, ◌<◌, length, take, refl, ap, arith, sym, subst, ◌∙◌}
use Rattle.std.proofs.Math.Seq.{take-length}
use Rattle.std.proofs.lemmas.List.{take_more}
use Rattle.ps_ledger.specs.declared.offers.Offer.{Offer}
use Rattle.ps_actors.specs.Ticks.{first_of, IsEarliest, rejection}
use Rattle.ps_actors.proofs.Rejecting.{earliest-more, first-more}
use Rattle.ps_actors.proofs.Fitting.{legal-fits}
use Rattle.ps_actors.proofs.rejects.first_rejected.Goals as goal

pub loop-at-preserved : goal.loop-at-preserved
loop-at-preserved c = λ i es o.
    let items : List Offer = c.args.state.now.ledger.offers.all.items in
    let at : ℕ = c.loop-at.at in
    let offer : Offer = c.index-offer.result.now in
    let lt : at < length items = omega (arith, c.loop-at-test.true, c.len-at-end.ensures) in
    let more : take (at + 1) items ≡ take at items ++ offer ∷ [] = take_more items at offer lt ∙ ap (λ (x : Offer). take at items ++ x ∷ []) (sym c.index-offer.ensures) in
    let may = c.may_reject-may.ensures i es o.kept
    ∙ sym (legal-fits i es (rejection offer) o.live refl) in
    subst (λ xs. IsEarliest (first_of i es xs) c.better-best.result) (sym more)
    (subst (IsEarliest (first_of i es (take at items ++ offer ∷ []))) (sym c.better-best.ensures)
    (earliest-more (first_of i es (take at items)) (first_of i es (take at items ++ offer ∷ [])) offer c.may_reject-may.result c.loop-at.best (c.loop-at.invariant i es o)
    (first-more i es (take at items) offer c.may_reject-may.result may)))

pub returns : goal.returns
returns c = λ i es o.
    let items : List Offer = c.args.state.now.ledger.offers.all.items in
    let same : c.loop-at.at ≡ length items = omega (arith, c.loop-at-test.false, c.loop-at.auto.at-end, c.len-at-end.ensures) in
    subst (λ xs. IsEarliest (first_of i es xs) c.loop-at.best) (ap (λ n. take n items) same ∙ take-length items) (c.loop-at.invariant i es o)
