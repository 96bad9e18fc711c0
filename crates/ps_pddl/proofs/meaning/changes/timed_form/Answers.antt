use Rattle.std.proofs.Common.{arith}
use Rattle.ps_pddl.proofs.EffectForms.{no_form}
use Rattle.ps_pddl.proofs.meaning.changes.timed_form.Goals as goal

pub returns-in-len1 : goal.returns-in-len1
returns-in-len1 c = no_form c.args.scope.now.domain.now c.args.scope.now.params.now c.args.word c.args.trees.now _ (omega arith)
