use Rattle.ps_journal.proofs.KnownLines.{known_answered}
use Rattle.ps_journal.proofs.replies.push_answer.Goals as goal

pub returns-in_default : goal.returns-in_default
returns-in_default c i es domain known told =
    known_answered c.args.names.now i es c.args.query.now c.args.expert.now c.args.problem.now c.push_known.result c.args.out.now.items c.push_known.new.out.items domain known
    c.in_default.not-Plan c.in_default.not-Tree c.push_known.ensures
