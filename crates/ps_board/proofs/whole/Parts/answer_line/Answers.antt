use Rattle.ps_board.proofs.whole.Parts.answer_line.Goals as goal

pub returns-in-Bad-clause-next : goal.returns-in-Bad-clause-next
returns-in-Bad-clause-next g c = c.answer_bad.ensures (g.S.Solver.says c.args.solver.now)
