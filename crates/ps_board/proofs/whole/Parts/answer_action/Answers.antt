use Rattle.std.proofs.Common.{◌++◌, [], ◌∷◌, List, ap, subst, sym, ◌∙◌}
use Rattle.ps_action.specs.declared.acts.Act.{Act}
use Rattle.ps_machine.specs.declared.inputs.Command.TheVariants as command
use Rattle.ps_machine.specs.declared.inputs.Line.TheVariants.{Good}
use Rattle.ps_board.specs.declared.whole.Parts.{Parts}
use Rattle.ps_board.specs.Commands.{MayAnswer}
use Rattle.ps_board.proofs.Answering.{act-cause, refused, runs-act}
use Rattle.ps_board.proofs.whole.Parts.answer_action.Goals as goal

pub returns-in-Some : goal.returns-in-Some
returns-in-Some c = λ says.
    let parts : Parts = c.args.self.now in
    subst (MayAnswer says parts) (sym c.refuse.ensures)
    (refused says parts (Good (command.RunAction c.args.act.now)) c.in-Some.why c.requires.next
    (act-cause parts c.args.act.now c.requires.stands ∙ sym c.ground_refusal.ensures ∙ c.in-Some.is))

pub returns-in_ok-push-in-None : goal.returns-in_ok-push-in-None
returns-in_ok-push-in-None c = λ says.
    runs-act says c.args.self.now c.args.act.now c.push.new.self c.requires.stands
    (c.in_ok-push-in-None.ensures.ok ∙ ap (λ (xs : List Act). xs ++ c.args.act.now ∷ []) c.new-acts.ensures)
    c.requires.next (sym c.ground_refusal.ensures ∙ c.in-None.is)
