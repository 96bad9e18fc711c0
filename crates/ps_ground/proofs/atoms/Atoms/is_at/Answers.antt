use Rattle.std.proofs.Common.{List, Some, length, ltb-true, ap, sym, ◌∙◌}
use Rattle.std.specs.Prelude.{slice_get}
use Rattle.ps_world.specs.declared.facts.Fact.{Fact}
use Rattle.ps_ground.proofs.Distinct.{equal_facts, item_at}
use Rattle.ps_ground.proofs.atoms.Atoms.is_at.Goals as goal

pub returns-in-Some : goal.returns-in-Some
returns-in-Some c =
    let atoms = c.as_slice.result.now in
    let there = rw c.in-Some.is at c.get.ensures.lookup in
    let within = ltb-true c.args.place (length atoms) (sym there.0) in
    λ yes.
    ap (λ (l : List Fact). slice_get l c.args.place) (sym c.as_slice.ensures.facts)
    ∙ item_at atoms c.args.place c.in-Some.there.now within there.1
    ∙ ap Some (equal_facts c.in-Some.there.now c.args.fact.now (sym c.eq.ensures ∙ yes))
