-- What most marks make of what is wanted.
use Rattle.std.specs.Prelude.{List, [], ◌∷◌, Option, None, Some}
use Rattle.ps_grammar.specs.Rules.{most_names}
use Rattle.ps_grammar.specs.declared.marks.Mark.TheVariants.{Close, All}
use Rattle.ps_grammar.specs.declared.symbols.Symbol.{Symbol}
use Rattle.ps_grammar.specs.declared.symbols.Symbol.TheVariants.{The, AnyName, InCondition, InEffect, InValue, InGoal}
use Rattle.ps_grammar.specs.declared.symbols.ConditionPart.TheVariants as condition
use Rattle.ps_grammar.specs.declared.symbols.EffectPart.TheVariants as effect
use Rattle.ps_grammar.specs.declared.symbols.Reach.TheVariants.{Spread}
use Rattle.ps_grammar.specs.declared.symbols.ValuePart.TheVariants as value
use Rattle.ps_grammar.specs.declared.symbols.GoalPart.TheVariants as goal
use Rattle.ps_grammar.specs.declared.turns.Turn.{Turn}
use Rattle.ps_grammar.specs.declared.turns.Turn.TheVariants as turn

-- what is wanted in place of this symbol after such a turn; None where the turn leaves it to the symbol's rule
abbrev pub turned : Turn → Symbol → Option (List Symbol)
turned turn.Ends s = Some []
turned turn.GoesOn s = Some (s ∷ [])
turned turn.Terms s = Some (InValue value.Terms ∷ [])
turned (turn.Names most) s = Some (InGoal (goal.Names most) ∷ [])
turned turn.ConditionHead s = Some (InCondition condition.Head ∷ [])
turned turn.EffectHead s = Some (InEffect (effect.Head Spread) ∷ [])
turned turn.TimedCondition s = Some (InCondition condition.TimedHead ∷ s ∷ [])
turned turn.TimedEffect s = Some (InEffect effect.TimedHead ∷ s ∷ [])
turned turn.Atom s = Some (AnyName ∷ InGoal (goal.Names most_names) ∷ [])
turned turn.ConditionAt s = Some (InEffect effect.StartOrEnd ∷ InCondition condition.Condition ∷ The Close ∷ [])
turned turn.ConditionOver s = Some (The All ∷ InCondition condition.Condition ∷ The Close ∷ [])
turned turn.EffectAt s = Some (InEffect effect.StartOrEnd ∷ InEffect (effect.Effect Spread) ∷ The Close ∷ [])
turned turn.ByRule s = None
