use Rattle.std.proofs.Common.{sym, subst}
use Rattle.ps_machine.specs.declared.inputs.Input.{Input}
use Rattle.ps_action.specs.Search.{Fits}
use Rattle.call_tests.proofs.replans.submits.Goals as goal

pub submit-requires-clause-fits : goal.submit-requires-clause-fits
submit-requires-clause-fits g c =
    subst (λ (i : Input). Fits i.domain c.in_ok-snapshot.snapshot.problem i.budget c.in_ok-answer.answer) (sym c.let_edit.ensures.input) c.in_ok-answer.ensures
