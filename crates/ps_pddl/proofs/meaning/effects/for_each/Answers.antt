use Rattle.std.proofs.Common.{arith}
use Rattle.ps_pddl.proofs.EffectForms.{no_for_each}
use Rattle.ps_pddl.proofs.meaning.effects.for_each.Goals as goal

pub returns-in_default : goal.returns-in_default
returns-in_default c = no_for_each c.args.scope.now.domain.now c.args.scope.now.params.now c.args.trees.now (omega arith)
