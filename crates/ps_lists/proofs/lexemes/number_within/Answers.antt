use Rattle.std.proofs.Common.{sym}
use Rattle.ps_lists.proofs.ClassNumbers.{zero-other}
use Rattle.ps_lists.proofs.lexemes.number_within.Goals as goal

pub returns-in_default : goal.returns-in_default
returns-in_default c = sym (zero-other c.args.word.now c.args.class c.requires c.in_default.not-Number)
