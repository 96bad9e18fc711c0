use Rattle.std.proofs.Common.{arith}
use Rattle.ps_pddl.proofs.EffectForms.{with_one}
use Rattle.ps_pddl.proofs.meaning.effects.plain_effect.Goals as goal

pub returns-in-len1 : goal.returns-in-len1
returns-in-len1 c =
    rw (with_one c.args.binder.now.domain.now c.args.params.now c.args.word c.args.trees.now (omega arith)) c.added-in-len1.ensures
