use Rattle.std.proofs.Common.{ap, subst, sym, ◌∙◌}
use Rattle.ps_action.specs.Search.{Fits}
use Rattle.ps_machine.specs.declared.journal.Refusal.TheVariants as refusal
use Rattle.ps_rules.specs.Lines.{unplanned}
use Rattle.ps_board.specs.declared.whole.Parts.{Parts}
use Rattle.ps_board.specs.Commands.{MayAnswer}
use Rattle.ps_board.proofs.Answering.{refuses-goal, runs-goal}
use Rattle.ps_board.proofs.whole.Parts.run_by.Goals as goal

pub returns-in-Plan : goal.returns-in-Plan
returns-in-Plan c = λ says said.
    let parts : Parts = c.args.self.now in
    runs-goal parts c.in-Plan.acts c.requires.stands c.requires.next c.requires.goal
    (subst (Fits parts.state.expert parts.state.problem parts.input.budget) c.in-Plan.is c.requires.fits) says (sym c.in-Plan.is ∙ said)

pub returns-in-NoPlan : goal.returns-in-NoPlan
returns-in-NoPlan c = λ says said.
    let parts : Parts = c.args.self.now in
    subst (MayAnswer says parts) (sym c.refuse.ensures)
    (refuses-goal parts c.args.answer refusal.NoPlan c.requires.stands c.requires.next c.requires.goal c.requires.fits (ap unplanned c.in-NoPlan.is) says said)

pub returns-in-Spent : goal.returns-in-Spent
returns-in-Spent c = λ says said.
    let parts : Parts = c.args.self.now in
    subst (MayAnswer says parts) (sym c.refuse-in-Spent.ensures)
    (refuses-goal parts c.args.answer (refusal.Spent c.in-Spent.depth) c.requires.stands c.requires.next c.requires.goal c.requires.fits (ap unplanned c.in-Spent.is) says said)

pub returns-in-TooMany : goal.returns-in-TooMany
returns-in-TooMany c = λ says said.
    let parts : Parts = c.args.self.now in
    subst (MayAnswer says parts) (sym c.refuse-in-TooMany.ensures)
    (refuses-goal parts c.args.answer refusal.TooMany c.requires.stands c.requires.next c.requires.goal c.requires.fits (ap unplanned c.in-TooMany.is) says said)
