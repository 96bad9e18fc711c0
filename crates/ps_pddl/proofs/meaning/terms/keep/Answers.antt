use Rattle.std.proofs.Common.{arith}
use Rattle.ps_pddl.proofs.Kept.{kept_all}
use Rattle.ps_pddl.proofs.meaning.terms.keep.Goals as goal

pub returns-else-len-lt-MOST_ARGUMENTS : goal.returns-else-len-lt-MOST_ARGUMENTS
returns-else-len-lt-MOST_ARGUMENTS c = kept_all c.args.terms.now 6 c.args.term (omega arith)
