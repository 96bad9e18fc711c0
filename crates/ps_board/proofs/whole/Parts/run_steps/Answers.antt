use Rattle.std.proofs.Common.{◌≡◌, ◌≤◌, IfOk, None, Some, length, ap, subst, ◌∙◌}
use Rattle.ps_machine.specs.declared.inputs.Command.TheVariants as command
use Rattle.ps_machine.specs.declared.inputs.Line.TheVariants.{Good}
use Rattle.ps_rules.specs.Lines.{acts_of, refusal_of_steps}
use Rattle.ps_board.specs.declared.whole.Parts.{Parts}
use Rattle.ps_board.specs.Commands.{line_of}
use Rattle.ps_board.proofs.Answering.{runs-plan}
use Rattle.ps_board.proofs.whole.Parts.run_steps.Goals as goal

pub returns : goal.returns
returns c = λ says.
    let parts : Parts = c.args.self.now in
    runs-plan says parts c.in-Ok.plan c.of-acts.result c.requires.stands
    (c.of-acts.ensures ∙ c.in_ok-acts_of-in-Ok.ensures ∙ ap acts_of c.as_slice.ensures)
    (subst (λ st. line_of parts ≡ Some (Good (command.RunPlan st))) c.in-Ok.is c.requires.next)
    (subst (λ st. IfOk st (λ plan. length plan ≤ 256)) c.in-Ok.is c.requires.few)
    (subst (λ st. refusal_of_steps parts.state.expert parts.state.problem st ≡ None) c.in-Ok.is c.requires.fine)
