-- Each symbol of the grammar stands for some marks.
use Rattle.std.proofs.Common.{◌≡◌, List, [], ◌∷◌, Some, refl}
use denote.Enum.Bare.{true_same}
use Rattle.ps_grammar.specs.contracts.marks.Mark.{the_type}
use Rattle.ps_grammar.specs.Shape.{run}
use Rattle.ps_grammar.specs.declared.marks.Mark.{Mark}
use Rattle.ps_grammar.specs.declared.marks.Mark.TheVariants.{Open, Close, Equal, Duration, Parameters, DurationKey, DurativeAction, Number, Define, Domain, Start, NumberWord, Name}
use Rattle.ps_grammar.specs.declared.symbols.Symbol.{Symbol}
use Rattle.ps_grammar.specs.declared.symbols.Symbol.TheVariants.{The, AnyName, InText, InList, InAction, InCondition, InEffect, InValue, InGoal}
use Rattle.ps_grammar.specs.declared.symbols.TextPart.TheVariants as text
use Rattle.ps_grammar.specs.declared.symbols.ListPart.TheVariants as list
use Rattle.ps_grammar.specs.declared.symbols.ActionPart.TheVariants as action
use Rattle.ps_grammar.specs.declared.symbols.ConditionPart.TheVariants as condition
use Rattle.ps_grammar.specs.declared.symbols.EffectPart.TheVariants as effect
use Rattle.ps_grammar.specs.declared.symbols.ValuePart.TheVariants as value
use Rattle.ps_grammar.specs.declared.symbols.GoalPart.TheVariants as goal

abbrev short : Symbol → List Mark
short (The m) = m ∷ []
short AnyName = Name ∷ []
short (InText text.Whole) = Open ∷ Define ∷ Open ∷ Domain ∷ Name ∷ Close ∷ Close ∷ []
short (InText text.Title) = Open ∷ Domain ∷ Name ∷ Close ∷ []
short (InText text.TitleWord) = Domain ∷ []
short (InText (text.SectionHead seen)) =
    DurativeAction ∷ Name ∷ Parameters ∷ Open ∷ Close ∷ DurationKey ∷ Open ∷ Equal ∷ Duration ∷ Number ∷ Close ∷ Close ∷ Close ∷ []
short (InList list.TypeName) = Name ∷ []
short (InList list.PredicateHead) = Name ∷ []
short (InList list.FunctionType) = NumberWord ∷ []
short (InAction action.AfterName) = Parameters ∷ Open ∷ Close ∷ DurationKey ∷ Open ∷ Equal ∷ Duration ∷ Number ∷ Close ∷ Close ∷ []
short (InAction action.Parameters) = Open ∷ Close ∷ []
short (InAction action.AfterParameters) = DurationKey ∷ Open ∷ Equal ∷ Duration ∷ Number ∷ Close ∷ Close ∷ []
short (InAction action.Duration) = Open ∷ Equal ∷ Duration ∷ Number ∷ Close ∷ []
short (InAction action.DurationHead) = Equal ∷ Duration ∷ Number ∷ Close ∷ []
short (InCondition condition.Form) = Open ∷ Close ∷ []
short (InCondition condition.Condition) = Open ∷ Name ∷ Close ∷ []
short (InCondition condition.Head) = Name ∷ Close ∷ []
short (InEffect effect.Form) = Open ∷ Close ∷ []
short (InEffect (effect.Effect reach)) = Open ∷ Name ∷ Close ∷ []
short (InEffect (effect.Head reach)) = Name ∷ Close ∷ []
short (InEffect (effect.Body reach)) = Open ∷ Name ∷ Close ∷ []
short (InEffect (effect.BodyHead reach)) = Name ∷ Close ∷ []
short (InEffect effect.StartOrEnd) = Start ∷ []
short (InValue value.Atom) = Open ∷ Name ∷ Close ∷ []
short (InValue value.Value) = Number ∷ []
short (InValue value.Head) = Name ∷ Close ∷ []
short (InGoal goal.Condition) = Open ∷ Name ∷ Close ∷ []
short (InGoal goal.Head) = Name ∷ Close ∷ []
short (InGoal goal.FirstOperand) = Name ∷ Name ∷ Close ∷ []
short (InGoal goal.Atom) = Open ∷ Name ∷ Close ∷ []
short (InGoal goal.Term) = Name ∷ []
short (InGoal goal.Value) = Number ∷ []
short (InGoal goal.ValueHead) = Name ∷ Close ∷ []
short _ = Close ∷ []

is_itself : (m : Mark) → run (The m ∷ []) (m ∷ []) ≡ Some []
is_itself m = rw (true_same the_type m m refl)

runs_short : (s : Symbol) → run (s ∷ []) (short s) ≡ Some []
runs_short (The m) = is_itself m
runs_short AnyName = refl
runs_short (InText text.Whole) = refl
runs_short (InText text.Title) = refl
runs_short (InText text.TitleWord) = refl
runs_short (InText (text.Sections seen)) = refl
runs_short (InText (text.SectionHead seen)) = refl
runs_short (InList list.Keywords) = refl
runs_short (InList _) = refl
runs_short (InAction action.AfterName) = refl
runs_short (InAction _) = refl
runs_short (InCondition condition.Form) = refl
runs_short (InCondition _) = refl
runs_short (InEffect effect.Form) = refl
runs_short (InEffect _) = refl
runs_short (InValue value.Atom) = refl
runs_short (InValue _) = refl
runs_short (InGoal goal.Condition) = refl
runs_short (InGoal _) = refl

-- a symbol stands for some marks
pub completed : (s : Symbol) → (ms : List Mark) × (run (s ∷ []) ms ≡ Some [])
completed s = (short s, runs_short s)
