use Rattle.std.proofs.Common.{refl, ◌∙◌}
use Rattle.ps_machine.specs.declared.journal.Event.TheVariants as event
use Rattle.ps_actors.proofs.Ticking.{alone}
use Rattle.ps_actors.proofs.acts.start_ready.Goals as goal

pub returns-clause-first : goal.returns-clause-first
returns-clause-first c = λ i es o.
    c.chosen_if.ensures.event ∙ alone i es (event.Start c.args.act) c.may_begin_act.result o.live refl (c.may_begin_act.ensures i es o.kept)
