use Rattle.std.proofs.Common.{[], ◌∷◌, List, sym, ◌∙◌, subst}
use Rattle.ps_world.specs.declared.facts.Fact.{Fact}
use Rattle.ps_marks.specs.Candidates.{Collects}
use Rattle.ps_marks.proofs.Collected.{collects_known, collects_one}
use Rattle.ps_marks.proofs.candidates.collect_own.Goals as goal

pub returns-then-has : goal.returns-then-has
returns-then-has c = collects_known c.args.problem.now c.args.fact.now c.args.found.now.keys (sym c.has.ensures.known ∙ c.if-has.true)

pub returns : goal.returns
returns c =
    let k = c.args.problem.now in
    let P : List Fact → Type 0 = λ fs. Collects k (c.args.fact.now ∷ []) c.args.found.now.keys fs in
    subst P (sym c.in_ok-insert.ensures.keys) (collects_one k c.args.fact.now c.args.found.now.keys (sym c.has.ensures.known ∙ c.if-has.false))
