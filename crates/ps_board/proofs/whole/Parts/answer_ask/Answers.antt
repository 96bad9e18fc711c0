use Rattle.std.proofs.Common.{subst, sym, ◌∙◌}
use Rattle.ps_machine.specs.declared.inputs.Command.TheVariants as command
use Rattle.ps_machine.specs.declared.inputs.Line.TheVariants.{Good}
use Rattle.ps_board.specs.declared.whole.Parts.{Parts}
use Rattle.ps_board.specs.Commands.{MayAnswer}
use Rattle.ps_board.proofs.Answering.{asks, query-cause, refused}
use Rattle.ps_board.proofs.whole.Parts.answer_ask.Goals as goal

pub returns-in-Some : goal.returns-in-Some
returns-in-Some g c = λ says.
    let parts : Parts = c.args.self.now in
    let cause = query-cause parts c.has_run-run.result c.args.query c.requires.stands (c.has_run-run.ensures parts.entries.items c.requires.stands.kept.told.run)
    ∙ sym c.in_ok-why.ensures ∙ c.in-Some.is in
    subst (MayAnswer says parts) (sym c.refuse.ensures) (refused says parts (Good (command.Ask c.args.query)) c.in-Some.why c.requires.next cause)

pub returns-in-None : goal.returns-in-None
returns-in-None g c = λ says.
    let parts : Parts = c.args.self.now in
    let cause = query-cause parts c.has_run-run.result c.args.query c.requires.stands (c.has_run-run.ensures parts.entries.items c.requires.stands.kept.told.run)
    ∙ sym c.in_ok-why.ensures ∙ c.in-None.is in
    asks says parts c.args.query c.requires.other c.requires.next cause
