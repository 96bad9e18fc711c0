use Rattle.std.proofs.Common.{not, None, List, filter, ap, sym, ◌∙◌, subst}
use Rattle.ps_world.specs.declared.facts.Fact.{Fact}
use Rattle.ps_marks.specs.Closures.{closure, is_in}
use Rattle.ps_marks.specs.Landmarks.{goal_atoms}
use Rattle.ps_marks.specs.Rules.{AllIn}
use Rattle.ps_marks.proofs.reach.unreached_with.Goals as goal

pub unset_of-requires : goal.unset_of-requires
unset_of-requires c =
    let P : List Fact → Type 0 = λ fs. AllIn c.args.places.now fs in
    subst P (sym (c.as_slice.ensures.value ∙ c.in_ok-asked.ensures ∙ ap goal_atoms c.goal.ensures)) c.requires.goal

pub returns : goal.returns
returns c =
    let out = λ (f : Fact). not (is_in (closure c.args.expert.now c.args.problem.now None) f) in
    c.in_ok-facts.ensures out (λ f b w. ap not (sym (c.requires.flags w.at f w.stands)) ∙ sym w.told)
    ∙ ap (filter out) (c.as_slice.ensures.value ∙ c.in_ok-asked.ensures ∙ ap goal_atoms c.goal.ensures)
