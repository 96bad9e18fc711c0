use Rattle.std.proofs.Common.{◌∙◌}
use Rattle.ps_action.proofs.Facts.{facts_total}
use Rattle.ps_problem.proofs.Filters.{remove_key-filter}
use Rattle.ps_problem.proofs.Namings.{fewer_named_where_taken}
use Rattle.ps_problem.proofs.problem.facts.Facts.remove.Goals as goal

pub invariant_of-self : goal.invariant_of-self
invariant_of-self c =
    fewer_named_where_taken c.self.inside.all.keys c.remove.new.self.keys c.self.inside.namings c.args.fact.now (c.remove.ensures.keys ∙ remove_key-filter facts_total c.args.fact.now c.self.inside.all.keys c.len-count.ensures.ordered) c.self.invariant

pub returns-clause-left : goal.returns-clause-left
returns-clause-left c =
    rw (← c.self.view_is) (c.remove.ensures.keys ∙ remove_key-filter facts_total c.args.fact.now c.self.inside.all.keys c.len-count.ensures.ordered)
