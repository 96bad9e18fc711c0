use Rattle.std.proofs.Common.{arith}
use Rattle.ps_grammar.specs.declared.symbols.ActionPart.TheVariants.{Parameters}
use Rattle.ps_grammar.specs.declared.symbols.ConditionPart.TheVariants.{Condition}
use Rattle.ps_grammar.specs.declared.symbols.EffectPart.TheVariants.{Body}
use Rattle.ps_grammar.specs.declared.symbols.Reach.TheVariants.{Guarded, Plain}
use Rattle.ps_grammar.specs.declared.symbols.Symbol.TheVariants.{InAction, InCondition, InEffect}
use Rattle.ps_grammar.specs.declared.symbols.Then.TheVariants.{Three}
use Rattle.ps_grammar.proofs.Levels.{few_where}
use Rattle.ps_grammar.proofs.rules.one_effect_rule.Goals as goal

pub returns-in-When-clause-few : goal.returns-in-When-clause-few
returns-in-When-clause-few c =
    few_where c.has_when.result (Three (InCondition Condition) (InEffect (Body Plain)) c.args.end) c.at.result c.at.ensures (omega (arith, c.requires.end))

pub returns-in-Forall-clause-few : goal.returns-in-Forall-clause-few
returns-in-Forall-clause-few c =
    few_where c.has_forall.result (Three (InAction Parameters) (InEffect (Body Guarded)) c.args.end) c.at-in-Forall.result c.at-in-Forall.ensures (omega (arith, c.requires.end))
