use Rattle.std.proofs.Common.{arith}
use Rattle.ps_pddl.proofs.EffectForms.{no_conditional}
use Rattle.ps_pddl.proofs.meaning.effects.conditional.Goals as goal

pub returns-in_default : goal.returns-in_default
returns-in_default c = no_conditional c.args.binder.now.domain.now c.args.binder.now.own c.args.params.now c.args.trees.now (omega arith)
