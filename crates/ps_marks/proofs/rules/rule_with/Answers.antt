use Rattle.std.proofs.Common.{◌++◌, List, not, sym, ◌∙◌, subst}
use Rattle.ps_world.specs.declared.facts.Fact.{Fact}
use Rattle.ps_marks.specs.Atoms.{atoms_of}
use Rattle.ps_marks.specs.Closures.{is_in}
use Rattle.ps_marks.specs.Making.{made_by}
use Rattle.ps_marks.specs.Rules.{AllIn, ArePlaces}
use Rattle.ps_marks.proofs.Placed.{needed_asked, own_asked, rule_is}
use Rattle.ps_marks.proofs.rules.rule_with.Goals as goal

pub places_of-requires : goal.places_of-requires
places_of-requires c =
    let atoms = c.args.places.now in
    let starts = atoms_of c.args.action.now.conditions.at_start in
    let made = made_by c.args.expert.now c.args.problem.now c.args.begins.now in
    let P : List Fact → Type 0 = λ fs. AllIn atoms fs in
    let Q : List Fact → Type 0 = λ fs. AllIn atoms (starts ++ fs) in
    subst P (sym (c.as_slice.ensures.value ∙ c.in_ok-needed.ensures)) (needed_asked starts c.args.later.now (λ x. not (is_in made x)) atoms (subst Q (sym c.requires.later) c.requires.all))

pub places_of-requires-2 : goal.places_of-requires-2
places_of-requires-2 c =
    let atoms = c.args.places.now in
    let starts = atoms_of c.args.action.now.conditions.at_start in
    let made = made_by c.args.expert.now c.args.problem.now c.args.begins.now in
    let P : List Fact → Type 0 = λ fs. AllIn atoms fs in
    let Q : List Fact → Type 0 = λ fs. AllIn atoms (starts ++ fs) in
    subst P (sym (c.as_slice-2.ensures.value ∙ c.in_ok-own.ensures)) (own_asked starts c.args.later.now (is_in made) atoms (subst Q (sym c.requires.later) c.requires.all))

pub returns : goal.returns
returns c =
    let atoms = c.args.places.now in
    let P : List Fact → Type 0 = λ fs. ArePlaces atoms c.in_ok-needs.needs.items fs in
    let Q : List Fact → Type 0 = λ fs. ArePlaces atoms c.in_ok-mine.mine.items fs in
    rule_is c.args.expert.now c.args.problem.now atoms c.args.action.now _ c.args.begins.now c.args.ends.now c.args.later.now c.requires.begins c.requires.ends c.requires.later
    (subst P (c.as_slice.ensures.value ∙ c.in_ok-needed.ensures) c.in_ok-needs.ensures)
    (subst Q (c.as_slice-2.ensures.value ∙ c.in_ok-own.ensures) c.in_ok-mine.ensures)
    c.in_ok-gives.ensures
