use Rattle.std.proofs.Common.{List, ap, ◌∙◌, subst}
use Rattle.ps_world.specs.declared.facts.Fact.{Fact}
use Rattle.ps_marks.specs.Candidates.{Collects}
use Rattle.ps_marks.specs.Making.{made_by}
use Rattle.ps_marks.specs.declared.making.Made.{Made}
use Rattle.ps_marks.proofs.AddsMade.{made_is}
use Rattle.ps_marks.proofs.candidates.collect_from.Goals as goal

pub returns : goal.returns
returns c =
    let d = c.args.expert.now in
    let k = c.args.problem.now in
    let P : List Fact → Type 0 = λ fs. Collects k fs c.args.found.now.keys c.collect_all.new.found.keys in
    subst P (ap (λ (ms : List Made). made_by d k ms) (c.as_slice.ensures.value ∙ c.in_ok-adds.ensures) ∙ made_is d k c.args.effects.now) c.in_ok-collect_all.ensures
