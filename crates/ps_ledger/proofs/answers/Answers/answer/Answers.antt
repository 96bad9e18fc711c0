use Rattle.std.proofs.Common.{rules}
use Rattle.ps_ledger.proofs.NewAnswers.{no-row}
use Rattle.ps_ledger.proofs.answers.Answers.answer.Goals as goal

pub returns-in-None : goal.returns-in-None
returns-in-None c = no-row c.args.names.now c.args.self.now.rows.items c.args.r c.args.by (search rules)
