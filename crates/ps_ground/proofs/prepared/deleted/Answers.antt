use Rattle.std.proofs.Common.{not, filter, sym, ◌∙◌}
use Rattle.ps_world.specs.Knowledge.{same_fact}
use Rattle.ps_action.specs.Effects.{deletes}
use Rattle.ps_action.specs.Grounding.{put_effect}
use Rattle.ps_ground.proofs.Fixedness.{fact_put_in}
use Rattle.ps_ground.proofs.Preparing.{placed_delete}
use Rattle.ps_ground.proofs.Removed.{filter_all}
use Rattle.ps_ground.proofs.prepared.deleted.Goals as goal

pub returns-in-Delete : goal.returns-in-Delete
returns-in-Delete c = λ fs a.
    placed_delete c.args.atoms.now c.ground_in.result fs c.place_near.result c.place_near.ensures.place a
    ∙ (λ i. filter (λ f. not (same_fact f (c.ground_in.ensures i))) fs)
    ∙ (λ i. filter (λ f. not (same_fact f (sym (fact_put_in c.args.args.now c.in-Delete.lifted) i))) fs)
    ∙ (λ i. filter (λ f. not (deletes f (put_effect c.args.args.now (sym c.in-Delete.is i)))) fs)

pub returns-in-Add : goal.returns-in-Add
returns-in-Add c = λ fs a. sym (filter_all fs) ∙ (λ i. filter (λ f. not (deletes f (put_effect c.args.args.now (sym c.in-Add.is i)))) fs)

pub returns-in-Number : goal.returns-in-Number
returns-in-Number c = λ fs a. sym (filter_all fs) ∙ (λ i. filter (λ f. not (deletes f (put_effect c.args.args.now (sym c.in-Number.is i)))) fs)
