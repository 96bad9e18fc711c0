use Rattle.std.proofs.Common.{[], ◌∷◌, refl, sym, ◌∙◌}
use Rattle.ps_machine.specs.declared.journal.Event.TheVariants.{Unserved}
use Rattle.ps_rules.specs.Legal.{is_legal}
use Rattle.ps_actors.specs.Ticks.{fails_on}
use Rattle.ps_actors.proofs.First.{either-none, either-some}
use Rattle.ps_actors.proofs.Ticking.{alone}
use Rattle.ps_actors.proofs.requests.leave_open.Goals as goal

pub returns-in-Some-clause-first : goal.returns-in-Some-clause-first
returns-in-Some-clause-first c = λ i es o.
    either-some (is_legal i es) (Unserved c.args.r ∷ []) (fails_on es c.args.r) c.in-Some.event
    (sym c.in-Some.is ∙ c.chosen_if.ensures.event ∙ alone i es (Unserved c.args.r) c.may_leave.result o.live refl (c.may_leave.ensures i es o.kept))

pub returns-in-None-clause-first : goal.returns-in-None-clause-first
returns-in-None-clause-first c = λ i es o.
    either-none (is_legal i es) (Unserved c.args.r ∷ []) (fails_on es c.args.r) c.fail_on.result
    (sym c.in-None.is ∙ c.chosen_if.ensures.event ∙ alone i es (Unserved c.args.r) c.may_leave.result o.live refl (c.may_leave.ensures i es o.kept))
    (c.fail_on.ensures.first i es o)
