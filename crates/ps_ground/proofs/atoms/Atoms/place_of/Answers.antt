use Rattle.std.proofs.Common.{List, ap, sym, ◌∙◌, subst}
use Rattle.std.specs.Prelude.{slice_get}
use Rattle.std.specs.List.{list_any}
use Rattle.std.specs.List.Sorted.{IsStrictlySortedBy}
use Rattle.ps_world.specs.Facts.{fact_cmp}
use Rattle.ps_world.specs.Knowledge.{same_fact}
use Rattle.ps_world.specs.declared.facts.Fact.{Fact}
use Rattle.ps_ground.proofs.Places.{answers_rise, found_at, none_there}
use Rattle.ps_ground.proofs.atoms.Atoms.place_of.Goals as goal

pub returns-in-Ok-clause-place : goal.returns-in-Ok-clause-place
returns-in-Ok-clause-place c =
    ap (λ (l : List Fact). slice_get l c.in-Ok.place) (sym c.as_slice.ensures.facts)
    ∙ found_at c.args.fact.now c.as_slice.result.now c.in-Ok.place c.in-Ok.ensures.bound c.in-Ok.ensures.ok

pub returns-in-Err-clause-place : goal.returns-in-Err-clause-place
returns-in-Err-clause-place c =
    let P : List Fact → Type 0 = λ l. IsStrictlySortedBy fact_cmp l in
    let rise = subst P (sym c.as_slice.ensures.facts) c.as_slice.ensures.rise in
    ap (λ (l : List Fact). list_any (same_fact c.args.fact.now) l) (sym c.as_slice.ensures.facts)
    ∙ none_there c.args.fact.now c.as_slice.result.now c.in-Err.field-0 (c.in-Err.ensures.position (answers_rise c.args.fact.now c.as_slice.result.now rise))
