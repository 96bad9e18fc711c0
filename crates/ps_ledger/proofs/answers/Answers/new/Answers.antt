use Rattle.ps_ledger.proofs.NewAnswers.{told-nothing}
use Rattle.ps_ledger.proofs.answers.Answers.new.Goals as goal

pub returns-clause-told : goal.returns-clause-told
returns-clause-told c = λ names. told-nothing names (record { rows = c.new.result }) c.new.ensures.items
