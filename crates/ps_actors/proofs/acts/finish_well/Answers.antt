use Rattle.std.proofs.Common.{[], ◌∷◌, refl, sym, ◌∙◌}
use Rattle.ps_machine.specs.declared.journal.Event.TheVariants as event
use Rattle.ps_actors.specs.Ticks.{fails_of}
use Rattle.ps_actors.proofs.Ticking.{alone}
use Rattle.ps_rules.specs.Legal.{is_legal}
use Rattle.ps_actors.proofs.First.{either-none, either-some}
use Rattle.ps_actors.proofs.acts.finish_well.Goals as goal

pub returns-in-Some-clause-first : goal.returns-in-Some-clause-first
returns-in-Some-clause-first c = λ i es o.
    either-some (is_legal i es) (event.End c.args.act ∷ []) (fails_of c.args.act) c.in-Some.event (sym c.in-Some.is ∙ c.chosen_if.ensures.event ∙ alone i es (event.End c.args.act) c.may_end_act.result o.live refl (c.may_end_act.ensures i es o.kept))

pub returns-in-None-clause-first : goal.returns-in-None-clause-first
returns-in-None-clause-first c = λ i es o.
    either-none (is_legal i es) (event.End c.args.act ∷ []) (fails_of c.args.act) c.fail_of.result (sym c.in-None.is ∙ c.chosen_if.ensures.event ∙ alone i es (event.End c.args.act) c.may_end_act.result o.live refl (c.may_end_act.ensures i es o.kept)) (c.fail_of.ensures.first i es o)
