use Rattle.std.proofs.Common.{sym, subst}
use Rattle.ps_problem.specs.declared.change.Change.{Change}
use Rattle.ps_expand.specs.Differences.{IsAt, forth}
use Rattle.ps_expand.specs.declared.differences.Difference.{Difference}
use Rattle.ps_expand.specs.declared.store.Place.{Place}
use Rattle.ps_expand.proofs.Standing.{at_here}
use Rattle.ps_expand.proofs.store.Store.place.Goals as goal

pub returns : goal.returns
returns c =
    let k = c.args.self.now.start.now in
    let h = c.args.self.now.here in
    let x = c.in-Some.difference.now in
    let P : Difference → Change → Type 0 = IsAt k h in
    let Q : Place → Type 0 = λ p. IsAt k h p.difference p.home.value in
    let here = at_here k h c.args.from c.args.self.now.reached c.requires.tree c.requires.from x (sym c.in-Some.ensures) in
    subst Q (sym c.in_ok-new.ensures.ok)
    (subst (P c.in_ok-difference.difference) (sym c.in_ok-home.ensures) (subst (λ y. P y (forth x)) (sym c.in_ok-difference.ensures) here))
