use Rattle.std.proofs.Common.{◌+◌, subst, sym}
use Rattle.ps_machine.specs.declared.journal.By.TheVariants.{Terminal}
use Rattle.ps_rules.specs.Choices.{edit_event}
use Rattle.ps_rules.specs.Lines.{answered}
use Rattle.ps_board.specs.declared.whole.Parts.{Parts}
use Rattle.ps_board.specs.Commands.{AnswersNext}
use Rattle.ps_board.proofs.Answering.{edits}
use Rattle.ps_board.proofs.whole.Parts.answer_edit.Goals as goal

pub returns : goal.returns
returns c = λ says.
    let parts : Parts = c.args.self.now in
    subst (λ n. AnswersNext says parts (edit_event parts.input parts.entries.items (Terminal n) c.in_ok-edit.edit)) (sym c.number.ensures)
    (subst (λ x. AnswersNext says parts (edit_event parts.input parts.entries.items (Terminal (answered parts.entries.items + 1)) x)) (sym c.in_ok-edit.ensures) (edits says parts c.args.edit.now c.requires.next))
