use Rattle.std.proofs.Common.{[], ◌∷◌, sym, ◌∙◌}
use Rattle.ps_machine.specs.declared.journal.Event.TheVariants as event
use Rattle.ps_machine.specs.declared.journal.FailWhy.TheVariants as fail
use Rattle.ps_rules.specs.Legal.{is_legal}
use Rattle.ps_actors.proofs.First.{either-none, either-some}
use Rattle.ps_actors.proofs.acts.fail_late.Goals as goal

pub returns-in-Some-clause-first : goal.returns-in-Some-clause-first
returns-in-Some-clause-first c = λ i es o.
    either-some (is_legal i es) (event.Fail c.args.act fail.AtEnd ∷ []) (event.Fail c.args.act fail.Effect ∷ []) c.in-Some.event (sym c.in-Some.is ∙ c.fail_for.ensures.first i es o)

pub returns-in-None-clause-first : goal.returns-in-None-clause-first
returns-in-None-clause-first c = λ i es o.
    either-none (is_legal i es) (event.Fail c.args.act fail.AtEnd ∷ []) (event.Fail c.args.act fail.Effect ∷ []) c.fail_for-in-None.result (sym c.in-None.is ∙ c.fail_for.ensures.first i es o) (c.fail_for-in-None.ensures.first i es o)
