use Rattle.std.proofs.Common.{subst, sym, ◌∙◌}
use Rattle.ps_machine.specs.declared.inputs.Command.TheVariants as command
use Rattle.ps_machine.specs.declared.inputs.Line.TheVariants.{Good}
use Rattle.ps_board.specs.declared.whole.Parts.{Parts}
use Rattle.ps_board.specs.Commands.{MayAnswer}
use Rattle.ps_board.proofs.Answering.{plan-cause, refused}
use Rattle.ps_board.proofs.whole.Parts.answer_plan.Goals as goal

pub returns-in-Some : goal.returns-in-Some
returns-in-Some c = λ says.
    let parts : Parts = c.args.self.now in
    subst (MayAnswer says parts) (sym c.refuse.ensures)
    (refused says parts (Good (command.RunPlan c.args.steps.now)) c.in-Some.why c.requires.next
    (plan-cause parts c.args.steps.now c.requires.stands ∙ sym c.in_ok-why.ensures ∙ c.in-Some.is))
