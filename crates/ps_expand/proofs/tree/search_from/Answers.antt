use Rattle.std.proofs.Common.{◌≡◌, IfOk, subst, ◌∙◌}
use Rattle.ps_world.specs.declared.known.Knowledge.{Knowledge}
use Rattle.ps_levels.specs.Levels.{answer_from}
use Rattle.ps_expand.specs.Trees.{path_of, tree_space}
use Rattle.ps_expand.proofs.tree.search_from.Goals as goal

pub returns-clause-answer : goal.returns-clause-answer
returns-clause-answer g c =
    let x = c.args.expander.now in
    let P : Knowledge → Type 0 = λ k. IfOk c.search_in.result (λ found. found ≡ answer_from (tree_space (g.X.Expand.domain x) k (g.X.Expand.goal x)) path_of c.args.budget c.args.most 0) in
    subst P ((λ i. (c.deref_mut.ensures.value i).start.now) ∙ c.in_ok-store.ensures.start) c.search_in.ensures.answer
