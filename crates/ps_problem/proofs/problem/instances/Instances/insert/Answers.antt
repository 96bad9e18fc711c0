use Rattle.std.proofs.Common.{Some, sym, subst}
use Rattle.ps_problem.specs.KindLists.{AreAfter, IsListed}
use Rattle.ps_problem.proofs.KindLists.{after_insert}
use Rattle.ps_problem.proofs.NamePlaces.{Rises, rises_put}
use Rattle.ps_problem.proofs.problem.instances.Instances.insert.Goals as goal

pub invariant_of-self-2 : goal.invariant_of-self-2
invariant_of-self-2 c =
    let old = c.self.inside.all.items in
    let listed = subst (IsListed c.list_kinds.new.kinds.items) c.as_slice.ensures.value c.list_kinds.ensures in
    let is = c.in_ok-put_in.ensures.ok in
    let after = subst (λ es. AreAfter c.args.name (Some c.args.kind) old es) (sym is) (after_insert old c.args.name c.args.kind) in
    (c.write_kind.ensures old _ listed.0 after, subst Rises (sym is) (rises_put c.args.name c.args.kind old listed.1))
