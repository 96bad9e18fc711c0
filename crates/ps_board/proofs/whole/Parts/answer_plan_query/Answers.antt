use Rattle.std.proofs.Common.{subst, sym, ◌∙◌}
use Rattle.ps_board.specs.declared.whole.Parts.{Parts}
use Rattle.ps_board.specs.Commands.{MayAnswer}
use Rattle.ps_board.proofs.Answering.{plan-less}
use Rattle.ps_board.proofs.whole.Parts.answer_plan_query.Goals as goal

pub returns-then-lacks_goal : goal.returns-then-lacks_goal
returns-then-lacks_goal g c =
    let parts : Parts = c.args.self.now in
    subst (MayAnswer (g.S.Solver.says c.args.solver.now) parts) (sym c.refuse.ensures)
    (plan-less (g.S.Solver.says c.args.solver.now) parts c.requires.stands c.requires.next (sym c.lacks_goal.ensures ∙ c.if-lacks_goal.true))

pub returns-in_ok-answer : goal.returns-in_ok-answer
returns-in_ok-answer g c = c.tell_plan.ensures (g.S.Solver.says c.args.solver.now) c.in_ok-answer.ensures.says
