use Rattle.std.proofs.Common.{◌≤◌, length, sym, ◌∙◌, subst}
use Rattle.ps_world.specs.declared.names.Name.{Name}
use Rattle.std.specs.Prelude.{List}
use Rattle.ps_action.specs.Grounding.{all_ground, most_ground}
use Rattle.ps_action.specs.declared.answers.Answer.{Answer}
use Rattle.ps_solve_laws.specs.Frugal.{IsFrugalAnswer}
use Rattle.ps_search.proofs.Told.{answer_is, answered, frugal, never}
use Rattle.ps_search.proofs.searching.search_to.Goals as goal

pub returns-clause-answer : goal.returns-clause-answer
returns-clause-answer g c =
    let x = c.args.expander.now in
    let d = g.X.Expand.domain x in
    let k = c.args.problem.now in
    let Few : List (Name × Name) → Type 0 = λ l. length (all_ground d l) ≤ most_ground in
    answer_is d k (g.X.Expand.goal x) c.args.budget c.answer_of.result (subst Few (sym c.requires.search.same) (g.met.X.Expand.few x))
    (c.answer_of.ensures ∙ answered d k (g.X.Expand.goal x) c.args.budget c.args.most c.in_ok-found.found c.requires.search.aim c.requires.most c.in_ok-found.ensures.answer)

pub returns-clause-told : goal.returns-clause-told
returns-clause-told g c = λ e. never c.in_ok-found.found (sym c.answer_of.ensures ∙ e)

pub returns-clause-frugal : goal.returns-clause-frugal
returns-clause-frugal g c =
    let x = c.args.expander.now in
    let d = g.X.Expand.domain x in
    let k = c.args.problem.now in
    let before = g.X.Expand.count x in
    let after = g.X.Expand.count c.search_from.new.expander in
    let P : Answer → Type 0 = λ a. IsFrugalAnswer d k c.args.budget before after a in
    subst P (sym c.answer_of.ensures) (frugal d k (g.X.Expand.goal x) c.args.budget before after c.in_ok-found.found c.in_ok-found.ensures.frugal)
