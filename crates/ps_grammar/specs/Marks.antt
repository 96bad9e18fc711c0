-- Which marks are names, keywords, and names with a meaning in a condition or an effect.
use Rattle.std.specs.Prelude.{Bool, true, false, not, ◌&&◌}
use denote.Enum.Bare.{sameb}
use Rattle.ps_grammar.specs.contracts.marks.Mark.{the_type}
use Rattle.ps_grammar.specs.declared.marks.Mark.{Mark}
use Rattle.ps_grammar.specs.declared.marks.Mark.TheVariants.{Requirements, Types, Constants, Predicates, Functions, DurativeAction, Parameters, DurationKey, ConditionKey, EffectKey, Action, Derived, Constraints, Keyword, Variable, Define, Domain, Problem, At, Over, Start, End, All, And, Not, Or, Imply, Exists, Forall, When, Preference, Assign, Increase, Decrease, ScaleUp, ScaleDown, Either, NumberWord, Name}

-- the mark is this one
abbrev pub is : Mark → Mark → Bool
is wanted m = sameb the_type m wanted

-- the mark is a name
abbrev pub is_name : Mark → Bool
is_name Define = true
is_name Domain = true
is_name Problem = true
is_name At = true
is_name Over = true
is_name Start = true
is_name End = true
is_name All = true
is_name And = true
is_name Not = true
is_name Or = true
is_name Imply = true
is_name Exists = true
is_name Forall = true
is_name When = true
is_name Preference = true
is_name Assign = true
is_name Increase = true
is_name Decrease = true
is_name ScaleUp = true
is_name ScaleDown = true
is_name Either = true
is_name NumberWord = true
is_name Name = true
is_name _ = false

-- the mark is a term's: a name or a variable
abbrev pub is_term : Mark → Bool
is_term Variable = true
is_term m = is_name m

-- the mark is a keyword
abbrev pub is_keyword : Mark → Bool
is_keyword Requirements = true
is_keyword Types = true
is_keyword Constants = true
is_keyword Predicates = true
is_keyword Functions = true
is_keyword DurativeAction = true
is_keyword Parameters = true
is_keyword DurationKey = true
is_keyword ConditionKey = true
is_keyword EffectKey = true
is_keyword Action = true
is_keyword Derived = true
is_keyword Constraints = true
is_keyword Keyword = true
is_keyword _ = false

-- the mark is the head of a form with alternatives, a quantifier or a condition of its own, wherever it may stand
abbrev pub is_quantified : Mark → Bool
is_quantified Or = true
is_quantified Imply = true
is_quantified Exists = true
is_quantified Forall = true
is_quantified When = true
is_quantified _ = false

-- the mark is the head of an effect on a number
abbrev pub is_change : Mark → Bool
is_change Assign = true
is_change Increase = true
is_change Decrease = true
is_change ScaleUp = true
is_change ScaleDown = true
is_change _ = false

-- the mark may name a predicate where it is declared and at the head of an effect
abbrev pub is_predicate_name : Mark → Bool
is_predicate_name And = false
is_predicate_name Not = false
is_predicate_name m = is_name m && not (is_quantified m) && not (is_change m)

-- the mark may name a predicate at the head of a condition
abbrev pub is_fact_name : Mark → Bool
is_fact_name And = false
is_fact_name Not = false
is_fact_name Preference = false
is_fact_name m = is_name m && not (is_quantified m)

-- the mark may name a predicate at the head of a goal's condition
abbrev pub is_goal_name : Mark → Bool
is_goal_name And = false
is_goal_name Not = false
is_goal_name m = is_name m && not (is_quantified m)
