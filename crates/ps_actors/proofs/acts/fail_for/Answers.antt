use Rattle.std.proofs.Common.{refl, ◌∙◌}
use Rattle.ps_machine.specs.declared.journal.Event.TheVariants.{Fail}
use Rattle.ps_actors.proofs.Ticking.{alone}
use Rattle.ps_actors.proofs.acts.fail_for.Goals as goal

pub returns-clause-first : goal.returns-clause-first
returns-clause-first c = λ i es o.
    c.chosen_if.ensures.event ∙ alone i es (Fail c.args.act c.args.why) c.may_fail.result o.live refl (c.may_fail.ensures i es o.kept)
