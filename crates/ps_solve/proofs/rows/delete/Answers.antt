use Rattle.std.proofs.Common.{not, filter, sym, ◌∙◌}
use Rattle.std.proofs.lemmas.Cmp.{eq_by_cmp_equiv}
use Rattle.ps_world.specs.Knowledge.{same_fact}
use Rattle.ps_action.specs.Effects.{deletes}
use Rattle.ps_ground.specs.Orders.{facts_total}
use Rattle.ps_solve.specs.Rows.{facts_of}
use Rattle.ps_ground.proofs.Removed.{filter_all}
use Rattle.ps_solve.proofs.rows.delete.Goals as goal

pub returns-in-Delete-clause-facts : goal.returns-in-Delete-clause-facts
returns-in-Delete-clause-facts c =
    let facts = facts_of c.args.atoms.now c.args.flags.now in
    let fact = c.ground.result in
    c.forget.ensures.facts
    ∙ (λ i. filter (λ f. not ((eq_by_cmp_equiv facts_total).symm fact f i)) facts)
    ∙ (λ i. filter (λ f. not (same_fact f (c.ground.ensures i))) facts)
    ∙ (λ i. filter (λ f. not (deletes f (sym c.in-Delete.is i))) facts)

pub returns-in-Add-clause-facts : goal.returns-in-Add-clause-facts
returns-in-Add-clause-facts c =
    let facts = facts_of c.args.atoms.now c.args.flags.now in
    sym (filter_all facts) ∙ (λ i. filter (λ f. not (deletes f (sym c.in-Add.is i))) facts)

pub returns-in-Number-clause-facts : goal.returns-in-Number-clause-facts
returns-in-Number-clause-facts c =
    let facts = facts_of c.args.atoms.now c.args.flags.now in
    sym (filter_all facts) ∙ (λ i. filter (λ f. not (deletes f (sym c.in-Number.is i))) facts)
