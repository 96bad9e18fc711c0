use Rattle.std.proofs.Common.{refl, subst, sym}
use Rattle.ps_machine.specs.declared.inputs.Line.TheVariants.{Bad}
use Rattle.ps_machine.specs.declared.journal.Refusal.TheVariants as refusal
use Rattle.ps_board.specs.Commands.{MayAnswer}
use Rattle.ps_board.proofs.Answering.{refused}
use Rattle.ps_board.proofs.whole.Parts.answer_bad.Goals as goal

pub returns : goal.returns
returns c = λ says.
    subst (MayAnswer says c.args.self.now) (sym c.refuse.ensures)
    (refused says c.args.self.now (Bad c.args.cause) (refusal.Line c.args.cause) c.requires.next refl)
