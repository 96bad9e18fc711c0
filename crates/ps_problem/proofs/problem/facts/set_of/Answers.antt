use Rattle.std.proofs.Common.{[], fold, ap, ◌∙◌}
use Rattle.std.specs.BTreeSet.{insert_key}
use Rattle.ps_world.specs.Facts.{fact_cmp}
use Rattle.ps_problem.proofs.PutFacts.{known, known-inserted}
use Rattle.ps_problem.proofs.problem.facts.set_of.Goals as goal

pub returns : goal.returns
returns c f = ap (known f) (c.in_ok-insert_all.ensures.ok ∙ ap (λ xs. fold (insert_key fact_cmp) xs c.args.facts.now) c.new-all.ensures) ∙ known-inserted f [] c.args.facts.now
