use Rattle.std.proofs.Common.{◌≡◌, ◌++◌, List, ◌∙◌, subst}
use Rattle.std.specs.List.{list_any}
use Rattle.std.specs.Result.{IfOk}
use Rattle.ps_world.specs.Knowledge.{same_fact}
use Rattle.ps_world.specs.declared.facts.Fact.{Fact}
use Rattle.ps_ground.proofs.grounds.atoms_of.Goals as goal

pub returns : goal.returns
returns c =
    let P : List Fact → Type 0 = λ fs. IfOk c.of.result (λ atoms. (f : Fact) → list_any (same_fact f) atoms ≡ list_any (same_fact f) fs) in
    subst P (λ i. (c.deref.ensures.value ∙ c.in_ok-facts.ensures.items) i ++ (c.deref-2.ensures.value ∙ c.in_ok-added.ensures) i) c.of.ensures
