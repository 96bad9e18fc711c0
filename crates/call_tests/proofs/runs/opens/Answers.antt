use Rattle.std.proofs.Common.{sym, subst, ◌∙◌}
use Rattle.ps_board.specs.Board.{IsAtRest}
use Rattle.call_tests.proofs.runs.opens.Goals as goal

pub returns-clause-rest : goal.returns-clause-rest
returns-clause-rest c = λ opened.
    let rest = c.is_running.ensures.rest (sym c.is_running.ensures.running ∙ c.if-is_running.false) in
    subst IsAtRest (sym c.in_ok-command.ensures.did) (record { halted = rest.halted; all_in = rest.all_in })
