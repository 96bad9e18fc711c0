use Rattle.std.proofs.Common.{not, ap, ◌∙◌}
use Rattle.std.specs.Map.{keys_of}
use Rattle.ps_world.specs.Knowledge.{same_fact}
use Rattle.ps_action.proofs.Facts.{facts_total}
use Rattle.ps_problem.proofs.Filters.{remove_entry-filter, keys-filter}
use Rattle.ps_problem.proofs.Namings.{fewer_named_where_taken}
use Rattle.ps_problem.proofs.problem.values.Values.remove.Goals as goal

pub invariant_of-self : goal.invariant_of-self
invariant_of-self c =
    fewer_named_where_taken (keys_of c.self.inside.all.entries) (keys_of c.remove.new.self.entries) c.self.inside.namings c.args.fact.now
    (ap keys_of (c.remove.ensures.entries ∙ remove_entry-filter facts_total c.args.fact.now c.self.inside.all.entries c.len-count.ensures.ordered) ∙ keys-filter (λ g. not (same_fact c.args.fact.now g)) c.self.inside.all.entries)
    c.self.invariant

pub returns-clause-left : goal.returns-clause-left
returns-clause-left c =
    rw (← c.self.view_is) (c.remove.ensures.entries ∙ remove_entry-filter facts_total c.args.fact.now c.self.inside.all.entries c.len-count.ensures.ordered)
