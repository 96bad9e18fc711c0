use Rattle.std.proofs.Common.{None, sym, subst}
use Rattle.ps_problem.specs.KindLists.{AreAfter}
use Rattle.ps_problem.proofs.KindLists.{after_remove}
use Rattle.ps_problem.proofs.NamePlaces.{Rises, rises_without}
use Rattle.ps_problem.proofs.problem.instances.Instances.remove.Goals as goal

pub invariant_of-self : goal.invariant_of-self
invariant_of-self c =
    let n = c.args.name in
    let old = c.self.inside.all.items in
    let after = subst (λ es. AreAfter n None old es) (sym c.take_out.ensures) (after_remove old n) in
    (c.write_kind.ensures old _ c.self.invariant.0 after, subst Rises (sym c.take_out.ensures) (rises_without n old c.self.invariant.1))
