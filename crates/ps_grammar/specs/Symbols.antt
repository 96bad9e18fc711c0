-- What the symbols of the grammar count for.
use Rattle.std.specs.Prelude.{ℕ, ◌+◌, Bool, true, false, List, [], ◌∷◌}
use Rattle.ps_grammar.specs.declared.marks.Mark.TheVariants.{Close}
use Rattle.ps_grammar.specs.declared.symbols.Symbol.{Symbol}
use Rattle.ps_grammar.specs.declared.symbols.Symbol.TheVariants.{The, AnyName, InText, InList, InAction, InCondition, InEffect, InValue, InGoal}
use Rattle.ps_grammar.specs.declared.symbols.TextPart.TheVariants as text
use Rattle.ps_grammar.specs.declared.symbols.ListPart.TheVariants as list
use Rattle.ps_grammar.specs.declared.symbols.ActionPart.TheVariants as action
use Rattle.ps_grammar.specs.declared.symbols.ConditionPart.TheVariants as condition
use Rattle.ps_grammar.specs.declared.symbols.EffectPart.TheVariants as effect
use Rattle.ps_grammar.specs.declared.symbols.ValuePart.TheVariants as value
use Rattle.ps_grammar.specs.declared.symbols.GoalPart.TheVariants as goal
use Rattle.ps_grammar.specs.declared.symbols.Reach.{Reach}
use Rattle.ps_grammar.specs.declared.symbols.Reach.TheVariants.{Spread, Guarded, Plain}
use Rattle.ps_grammar.specs.declared.symbols.Seen.{Seen}
use Rattle.ps_grammar.specs.declared.symbols.Then.{Then}
use Rattle.ps_grammar.specs.declared.symbols.Then.TheVariants.{Nothing, One, Two, Three}

-- the symbols that a mark leads to, in order
abbrev pub symbols : Then → List Symbol
symbols Nothing = []
symbols (One a) = a ∷ []
symbols (Two a b) = a ∷ b ∷ []
symbols (Three a b c) = a ∷ b ∷ c ∷ []

-- before any section
abbrev pub none_seen : Seen
none_seen = record { requirements = false; types = false; constants = false; predicates = false; functions = false }

-- a `forall` may stand among such effects
abbrev pub has_forall : Reach → Bool
has_forall Spread = true
has_forall Guarded = false
has_forall Plain = false

-- a `when` may stand among such effects
abbrev pub has_when : Reach → Bool
has_when Spread = true
has_when Guarded = true
has_when Plain = false

-- how many levels of parentheses end with what the symbol stands for: a timed form alone in its section counts for two, and so does one
-- effect alone in a `forall` or a `when`
abbrev pub weight : Symbol → ℕ
weight (The Close) = 1
weight (The m) = 0
weight AnyName = 0
weight (InText text.Whole) = 0
weight (InText text.Title) = 0
weight (InText text.TitleWord) = 0
weight (InText (text.SectionHead seen)) = 2
weight (InList list.TypeName) = 0
weight (InList list.PredicateHead) = 0
weight (InList list.FunctionType) = 0
weight (InAction action.Parameters) = 0
weight (InAction action.Duration) = 0
weight (InCondition condition.Form) = 0
weight (InCondition condition.Condition) = 0
weight (InEffect effect.Form) = 0
weight (InEffect (effect.Effect reach)) = 0
weight (InEffect (effect.Body reach)) = 0
weight (InEffect effect.LoneTerms) = 2
weight (InEffect effect.StartOrEnd) = 0
weight (InEffect effect.FormEnd) = 2
weight (InValue value.Atom) = 0
weight (InValue value.Value) = 0
weight (InGoal goal.Condition) = 0
weight (InGoal goal.Atom) = 0
weight (InGoal goal.Term) = 0
weight (InGoal goal.Value) = 0
weight _ = 1

-- how many levels of parentheses stand open where these symbols are wanted
abbrev pub level : List Symbol → ℕ
level [] = 0
level (s ∷ st) = weight s + level st
