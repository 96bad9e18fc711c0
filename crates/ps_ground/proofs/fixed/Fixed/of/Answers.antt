use Rattle.std.proofs.Common.{List, not, filter, ap, ◌∙◌, subst}
use Rattle.std.specs.List.{list_any}
use Rattle.ps_world.specs.Names.{same_name}
use Rattle.ps_world.specs.declared.facts.Fact.{Fact}
use Rattle.ps_ground.specs.Atoms.{AreAtoms}
use Rattle.ps_ground.proofs.Fixedness.{are_fixed}
use Rattle.ps_ground.proofs.fixed.Fixed.of.Goals as goal

pub returns : goal.returns
returns c =
    let heads = c.in_ok-heads.heads.keys in
    let kept = λ (f : Fact). not (list_any (same_name f.head) heads) in
    are_fixed c.args.expert.now c.args.problem.now heads c.in_ok-others.others.items c.in_ok-facts-2.facts c.in_ok-heads.ensures
    (c.in_ok-others.ensures ∙ ap (filter kept) (c.deref.ensures.value ∙ c.in_ok-facts.ensures.items)) (subst (λ (fs : List Fact). AreAtoms c.in_ok-facts-2.facts fs) c.deref-2.ensures.value c.in_ok-facts-2.ensures)
