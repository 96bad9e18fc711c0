-- The grammar of a domain's text and of goals, a rule a line: the symbol wanted, the mark that it may begin with, and what is wanted after that mark.
use Rattle.std.specs.Prelude.{ℕ, zero, suc, Bool, true, List, [], ◌∷◌, Option, None, Some, if◌then◌else◌}
use Rattle.ps_grammar.specs.Symbols.{has_forall, has_when, none_seen}
use Rattle.ps_grammar.specs.Marks.{is, is_name, is_term, is_keyword, is_change, is_predicate_name, is_fact_name, is_goal_name}
use Rattle.ps_grammar.specs.declared.marks.Mark.{Mark}
use Rattle.ps_grammar.specs.declared.marks.Mark.TheVariants.{Open, Close, Plus, Times, Divide, Equal, Less, Greater, LessEqual, GreaterEqual, Minus, Duration, Variable, Requirements, Types, Constants, Predicates, Functions, DurativeAction, Parameters, DurationKey, ConditionKey, EffectKey, Number, Define, Domain, At, Over, Start, End, All, And, Not, Or, Imply, Exists, Forall, When, NumberWord}
use Rattle.ps_grammar.specs.declared.symbols.Symbol.{Symbol}
use Rattle.ps_grammar.specs.declared.symbols.Symbol.TheVariants.{The, AnyName, InText, InList, InAction, InCondition, InEffect, InValue, InGoal}
use Rattle.ps_grammar.specs.declared.symbols.Seen.{Seen}
use Rattle.ps_grammar.specs.declared.symbols.TextPart.{TextPart}
use Rattle.ps_grammar.specs.declared.symbols.ListPart.{ListPart}
use Rattle.ps_grammar.specs.declared.symbols.ActionPart.{ActionPart}
use Rattle.ps_grammar.specs.declared.symbols.ConditionPart.{ConditionPart}
use Rattle.ps_grammar.specs.declared.symbols.EffectPart.{EffectPart}
use Rattle.ps_grammar.specs.declared.symbols.Reach.{Reach}
use Rattle.ps_grammar.specs.declared.symbols.Reach.TheVariants.{Spread, Guarded, Plain}
use Rattle.ps_grammar.specs.declared.symbols.ValuePart.{ValuePart}
use Rattle.ps_grammar.specs.declared.symbols.GoalPart.{GoalPart}
use Rattle.ps_grammar.specs.declared.symbols.TextPart.TheVariants as text
use Rattle.ps_grammar.specs.declared.symbols.ListPart.TheVariants as list
use Rattle.ps_grammar.specs.declared.symbols.ActionPart.TheVariants as action
use Rattle.ps_grammar.specs.declared.symbols.ConditionPart.TheVariants as condition
use Rattle.ps_grammar.specs.declared.symbols.EffectPart.TheVariants as effect
use Rattle.ps_grammar.specs.declared.symbols.ValuePart.TheVariants as value
use Rattle.ps_grammar.specs.declared.symbols.GoalPart.TheVariants as goal

-- these symbols where the mark passes
abbrev pub where_it_is : Bool → List Symbol → Option (List Symbol)
where_it_is passes new = if passes then Some new else None

-- a section that stands at most once
abbrev pub once : Bool → ListPart → Seen → Option (List Symbol)
once before part seen = if before then None else Some (InList part ∷ InText (text.Sections seen) ∷ [])

-- SECTION: (:requirements KEYWORD*) | (:types TLIST) | (:constants TLIST) | (:predicates DECL*) | (:functions FDECL*) | ACTION
abbrev pub section_rule : Seen → Mark → Option (List Symbol)
section_rule seen Requirements = once seen.requirements list.Keywords (record seen { requirements = true })
section_rule seen Types = once seen.types list.Names (record seen { types = true })
section_rule seen Constants = once seen.constants list.Names (record seen { constants = true })
section_rule seen Predicates = once seen.predicates list.Predicates (record seen { predicates = true })
section_rule seen Functions = once seen.functions list.Functions (record seen { functions = true })
section_rule seen DurativeAction = Some (AnyName ∷ InAction action.AfterName ∷ InText (text.Sections seen) ∷ [])
section_rule _ _ = None

-- DOMAIN: (define (domain NAME) SECTION*)
abbrev pub text_rule : TextPart → Mark → Option (List Symbol)
text_rule text.Whole Open = Some (The Define ∷ InText text.Title ∷ InText (text.Sections none_seen) ∷ [])
text_rule text.Title Open = Some (InText text.TitleWord ∷ AnyName ∷ The Close ∷ [])
text_rule text.TitleWord Domain = Some []
text_rule (text.Sections seen) Open = Some (InText (text.SectionHead seen) ∷ [])
text_rule (text.Sections seen) Close = Some []
text_rule (text.SectionHead seen) m = section_rule seen m
text_rule _ _ = None

-- TLIST: names; a run of names may be followed by - NAME
-- DECL: (NAME VLIST), where VLIST is a TLIST of variables
-- FDECL: DECL [- number]
abbrev pub list_rule : ListPart → Mark → Option (List Symbol)
list_rule list.Keywords Close = Some []
list_rule list.Keywords m = where_it_is (is_keyword m) (InList list.Keywords ∷ [])
list_rule list.Names Close = Some []
list_rule list.Names m = where_it_is (is_name m) (InList list.NameRun ∷ [])
list_rule list.NameRun Close = Some []
list_rule list.NameRun Minus = Some (InList list.TypeName ∷ InList list.Names ∷ [])
list_rule list.NameRun m = where_it_is (is_name m) (InList list.NameRun ∷ [])
list_rule list.Variables Close = Some []
list_rule list.Variables Variable = Some (InList list.VariableRun ∷ [])
list_rule list.VariableRun Close = Some []
list_rule list.VariableRun Minus = Some (InList list.TypeName ∷ InList list.Variables ∷ [])
list_rule list.VariableRun Variable = Some (InList list.VariableRun ∷ [])
list_rule list.TypeName m = where_it_is (is_name m) []
list_rule list.Predicates Close = Some []
list_rule list.Predicates Open = Some (InList list.PredicateHead ∷ InList list.Variables ∷ InList list.Predicates ∷ [])
list_rule list.PredicateHead m = where_it_is (is_predicate_name m) []
list_rule list.Functions Close = Some []
list_rule list.Functions Open = Some (AnyName ∷ InList list.Variables ∷ InList list.FunctionRun ∷ [])
list_rule list.FunctionRun Close = Some []
list_rule list.FunctionRun Open = Some (AnyName ∷ InList list.Variables ∷ InList list.FunctionRun ∷ [])
list_rule list.FunctionRun Minus = Some (InList list.FunctionType ∷ InList list.Functions ∷ [])
list_rule list.FunctionType NumberWord = Some []
list_rule _ _ = None

-- ACTION: (:durative-action NAME :parameters (VLIST) :duration (= ?duration X) [:condition TC] [:effect TE])
abbrev pub action_rule : ActionPart → Mark → Option (List Symbol)
action_rule action.AfterName Parameters = Some (InAction action.Parameters ∷ InAction action.AfterParameters ∷ [])
action_rule action.Parameters Open = Some (InList list.Variables ∷ [])
action_rule action.AfterParameters DurationKey = Some (InAction action.Duration ∷ InAction action.AfterDuration ∷ [])
action_rule action.Duration Open = Some (InAction action.DurationHead ∷ [])
action_rule action.DurationHead Equal = Some (The Duration ∷ InValue value.Value ∷ The Close ∷ [])
action_rule action.AfterDuration Close = Some []
action_rule action.AfterDuration ConditionKey = Some (InCondition condition.Form ∷ InAction action.AfterCondition ∷ [])
action_rule action.AfterDuration EffectKey = Some (InEffect effect.Form ∷ The Close ∷ [])
action_rule action.AfterCondition Close = Some []
action_rule action.AfterCondition EffectKey = Some (InEffect effect.Form ∷ The Close ∷ [])
action_rule _ _ = None

-- C: (and C*) | (or C*) | (not C) | (imply C C) | (exists (VLIST) C) | (forall (VLIST) C) | (NAME TERM*) | (= X X) | (REL X X), where REL
-- is < <= >= >
abbrev pub condition_head_rule : Mark → Option (List Symbol)
condition_head_rule And = Some (InCondition condition.Conditions ∷ [])
condition_head_rule Or = Some (InCondition condition.Conditions ∷ [])
condition_head_rule Not = Some (InCondition condition.Condition ∷ The Close ∷ [])
condition_head_rule Imply = Some (InCondition condition.Condition ∷ InCondition condition.Condition ∷ The Close ∷ [])
condition_head_rule Exists = Some (InAction action.Parameters ∷ InCondition condition.Condition ∷ The Close ∷ [])
condition_head_rule Forall = Some (InAction action.Parameters ∷ InCondition condition.Condition ∷ The Close ∷ [])
condition_head_rule Equal = Some (InValue value.Value ∷ InValue value.Value ∷ The Close ∷ [])
condition_head_rule Less = Some (InValue value.Value ∷ InValue value.Value ∷ The Close ∷ [])
condition_head_rule LessEqual = Some (InValue value.Value ∷ InValue value.Value ∷ The Close ∷ [])
condition_head_rule GreaterEqual = Some (InValue value.Value ∷ InValue value.Value ∷ The Close ∷ [])
condition_head_rule Greater = Some (InValue value.Value ∷ InValue value.Value ∷ The Close ∷ [])
condition_head_rule m = where_it_is (is_fact_name m) (InValue value.Terms ∷ [])

-- TC: () | (and TC*) | (at start C) | (over all C) | (at end C)
abbrev pub condition_rule : ConditionPart → Mark → Option (List Symbol)
condition_rule condition.Form Open = Some (InCondition condition.FormHead ∷ [])
condition_rule condition.FormHead Close = Some []
condition_rule condition.FormHead And = Some (InCondition condition.TimedList ∷ [])
condition_rule condition.FormHead At = Some (InEffect effect.StartOrEnd ∷ InCondition condition.Condition ∷ InEffect effect.FormEnd ∷ [])
condition_rule condition.FormHead Over = Some (The All ∷ InCondition condition.Condition ∷ InEffect effect.FormEnd ∷ [])
condition_rule condition.TimedList Close = Some []
condition_rule condition.TimedList Open = Some (InCondition condition.TimedHead ∷ InCondition condition.TimedList ∷ [])
condition_rule condition.TimedHead Close = Some []
condition_rule condition.TimedHead And = Some (InCondition condition.TimedList ∷ [])
condition_rule condition.TimedHead At = Some (InEffect effect.StartOrEnd ∷ InCondition condition.Condition ∷ The Close ∷ [])
condition_rule condition.TimedHead Over = Some (The All ∷ InCondition condition.Condition ∷ The Close ∷ [])
condition_rule condition.Condition Open = Some (InCondition condition.Head ∷ [])
condition_rule condition.Conditions Close = Some []
condition_rule condition.Conditions Open = Some (InCondition condition.Head ∷ InCondition condition.Conditions ∷ [])
condition_rule condition.Head m = condition_head_rule m
condition_rule _ _ = None

-- (NAME TERM*) | (not (NAME TERM*)) | (NOP (NAME TERM*) X) | (when C G) | (forall (VLIST) W), where NOP is assign increase decrease scale-up
-- scale-down; the two symbols are those of terms and of the parenthesis that ends an effect
abbrev pub one_effect_rule : Reach → Symbol → Symbol → Mark → Option (List Symbol)
one_effect_rule reach terms end Not = Some (InValue value.Atom ∷ end ∷ [])
one_effect_rule reach terms end When = where_it_is (has_when reach) (InCondition condition.Condition ∷ InEffect (effect.Body Plain) ∷ end ∷ [])
one_effect_rule reach terms end Forall = where_it_is (has_forall reach) (InAction action.Parameters ∷ InEffect (effect.Body Guarded) ∷ end ∷ [])
one_effect_rule reach terms end m =
    if is_change m
    then Some (InValue value.Atom ∷ InValue value.Value ∷ end ∷ [])
    else where_it_is (is_predicate_name m) (terms ∷ [])

-- E: (and E*) | (NAME TERM*) | (not (NAME TERM*)) | (NOP (NAME TERM*) X) | (when C G) | (forall (VLIST) W)
-- W: (and W*) | the same without forall
-- G: (and G*) | the same without forall and when
abbrev pub effect_head_rule : Reach → Mark → Option (List Symbol)
effect_head_rule reach And = Some (InEffect (effect.Effects reach) ∷ [])
effect_head_rule reach m = one_effect_rule reach (InValue value.Terms) (The Close) m

-- W in a `forall` and G in a `when`
abbrev pub body_head_rule : Reach → Mark → Option (List Symbol)
body_head_rule reach And = Some (InEffect (effect.Effects reach) ∷ [])
body_head_rule reach m = one_effect_rule reach (InEffect effect.LoneTerms) (InEffect effect.FormEnd) m

-- the terms of a fact alone in a `forall` or a `when`
abbrev pub lone_terms_rule : Mark → Option (List Symbol)
lone_terms_rule Close = Some []
lone_terms_rule m = where_it_is (is_term m) (InEffect effect.LoneTerms ∷ [])

-- TE: () | (and TE*) | (at start E) | (at end E)
abbrev pub effect_rule : EffectPart → Mark → Option (List Symbol)
effect_rule effect.Form Open = Some (InEffect effect.FormHead ∷ [])
effect_rule effect.FormHead Close = Some []
effect_rule effect.FormHead And = Some (InEffect effect.TimedList ∷ [])
effect_rule effect.FormHead At = Some (InEffect effect.StartOrEnd ∷ InEffect (effect.Effect Spread) ∷ InEffect effect.FormEnd ∷ [])
effect_rule effect.TimedList Close = Some []
effect_rule effect.TimedList Open = Some (InEffect effect.TimedHead ∷ InEffect effect.TimedList ∷ [])
effect_rule effect.TimedHead Close = Some []
effect_rule effect.TimedHead And = Some (InEffect effect.TimedList ∷ [])
effect_rule effect.TimedHead At = Some (InEffect effect.StartOrEnd ∷ InEffect (effect.Effect Spread) ∷ The Close ∷ [])
effect_rule (effect.Effect reach) Open = Some (InEffect (effect.Head reach) ∷ [])
effect_rule (effect.Effects reach) Close = Some []
effect_rule (effect.Effects reach) Open = Some (InEffect (effect.Head reach) ∷ InEffect (effect.Effects reach) ∷ [])
effect_rule (effect.Head reach) m = effect_head_rule reach m
effect_rule (effect.Body reach) Open = Some (InEffect (effect.BodyHead reach) ∷ [])
effect_rule (effect.BodyHead reach) m = body_head_rule reach m
effect_rule effect.LoneTerms m = lone_terms_rule m
effect_rule effect.StartOrEnd Start = Some []
effect_rule effect.StartOrEnd End = Some []
effect_rule effect.FormEnd Close = Some []
effect_rule _ _ = None

-- X: NUMBER | NAME | VARIABLE | (NAME TERM*) | (- X) | (OP X X), where OP is + - * /
-- TERM: NAME | VARIABLE
abbrev pub value_rule : ValuePart → Mark → Option (List Symbol)
value_rule value.Atom Open = Some (AnyName ∷ InValue value.Terms ∷ [])
value_rule value.Terms Close = Some []
value_rule value.Terms Variable = Some (InValue value.Terms ∷ [])
value_rule value.Terms m = where_it_is (is_name m) (InValue value.Terms ∷ [])
value_rule value.Value Number = Some []
value_rule value.Value Variable = Some []
value_rule value.Value Open = Some (InValue value.Head ∷ [])
value_rule value.Value m = where_it_is (is_name m) []
value_rule value.Head Minus = Some (InValue value.Value ∷ InValue value.ValueOrEnd ∷ [])
value_rule value.Head Plus = Some (InValue value.Value ∷ InValue value.Value ∷ The Close ∷ [])
value_rule value.Head Times = Some (InValue value.Value ∷ InValue value.Value ∷ The Close ∷ [])
value_rule value.Head Divide = Some (InValue value.Value ∷ InValue value.Value ∷ The Close ∷ [])
value_rule value.Head m = where_it_is (is_name m) (InValue value.Terms ∷ [])
value_rule value.ValueOrEnd Close = Some []
value_rule value.ValueOrEnd Number = Some (The Close ∷ [])
value_rule value.ValueOrEnd Variable = Some (The Close ∷ [])
value_rule value.ValueOrEnd Open = Some (InValue value.Head ∷ The Close ∷ [])
value_rule value.ValueOrEnd m = where_it_is (is_name m) (The Close ∷ [])
value_rule _ _ = None

-- how many terms a fact of a goal and a function's value have at most
abbrev pub most_names : ℕ
most_names = 6

-- a term, where so many may stand, and the terms that may follow it
abbrev pub name_rule : ℕ → Mark → Option (List Symbol)
name_rule zero m = None
name_rule (suc more) m = where_it_is (is_term m) (InGoal (goal.Names more) ∷ [])

-- C: (and C*) | (or C*) | (not C) | (imply C C) | (exists (VLIST) C) | (forall (VLIST) C) | (NAME TERM*) | (= TERM TERM) | (= X X) |
-- (REL X X), where REL is < <= >= >, and the NAME of a fact is none of and not or imply exists forall when
abbrev pub goal_head_rule : Mark → Option (List Symbol)
goal_head_rule And = Some (InGoal goal.Conditions ∷ [])
goal_head_rule Or = Some (InGoal goal.Conditions ∷ [])
goal_head_rule Not = Some (InGoal goal.Condition ∷ The Close ∷ [])
goal_head_rule Imply = Some (InGoal goal.Condition ∷ InGoal goal.Condition ∷ The Close ∷ [])
goal_head_rule Exists = Some (InAction action.Parameters ∷ InGoal goal.Condition ∷ The Close ∷ [])
goal_head_rule Forall = Some (InAction action.Parameters ∷ InGoal goal.Condition ∷ The Close ∷ [])
goal_head_rule Equal = Some (InGoal goal.FirstOperand ∷ [])
goal_head_rule Less = Some (InGoal goal.Value ∷ InGoal goal.Value ∷ The Close ∷ [])
goal_head_rule LessEqual = Some (InGoal goal.Value ∷ InGoal goal.Value ∷ The Close ∷ [])
goal_head_rule GreaterEqual = Some (InGoal goal.Value ∷ InGoal goal.Value ∷ The Close ∷ [])
goal_head_rule Greater = Some (InGoal goal.Value ∷ InGoal goal.Value ∷ The Close ∷ [])
goal_head_rule m = where_it_is (is_goal_name m) (InGoal (goal.Names most_names) ∷ [])

-- X: NUMBER | (NAME TERM*) | (- X) | (OP X X), where OP is + - * /
abbrev pub goal_value_rule : Mark → Option (List Symbol)
goal_value_rule Minus = Some (InGoal goal.Value ∷ InGoal goal.ValueOrEnd ∷ [])
goal_value_rule Plus = Some (InGoal goal.Value ∷ InGoal goal.Value ∷ The Close ∷ [])
goal_value_rule Times = Some (InGoal goal.Value ∷ InGoal goal.Value ∷ The Close ∷ [])
goal_value_rule Divide = Some (InGoal goal.Value ∷ InGoal goal.Value ∷ The Close ∷ [])
goal_value_rule m = where_it_is (is_name m) (InGoal (goal.Names most_names) ∷ [])

-- what follows `=`: numbers are compared where a number or a parenthesis stands first, and terms otherwise
abbrev pub operand_rule : Mark → Option (List Symbol)
operand_rule Number = Some (InGoal goal.Value ∷ The Close ∷ [])
operand_rule Open = Some (InGoal goal.ValueHead ∷ InGoal goal.Value ∷ The Close ∷ [])
operand_rule m = where_it_is (is_term m) (InGoal goal.Term ∷ The Close ∷ [])

-- what each part of a goal begins with
abbrev pub goal_rule : GoalPart → Mark → Option (List Symbol)
goal_rule goal.Condition Open = Some (InGoal goal.Head ∷ [])
goal_rule goal.Head m = goal_head_rule m
goal_rule goal.Conditions Close = Some []
goal_rule goal.Conditions Open = Some (InGoal goal.Head ∷ InGoal goal.Conditions ∷ [])
goal_rule goal.FirstOperand m = operand_rule m
goal_rule goal.Atom Open = Some (AnyName ∷ InGoal (goal.Names most_names) ∷ [])
goal_rule goal.Term m = where_it_is (is_term m) []
goal_rule (goal.Names most) Close = Some []
goal_rule (goal.Names most) m = name_rule most m
goal_rule goal.Value Number = Some []
goal_rule goal.Value Open = Some (InGoal goal.ValueHead ∷ [])
goal_rule goal.ValueHead m = goal_value_rule m
goal_rule goal.ValueOrEnd Close = Some []
goal_rule goal.ValueOrEnd Number = Some (The Close ∷ [])
goal_rule goal.ValueOrEnd Open = Some (InGoal goal.ValueHead ∷ The Close ∷ [])
goal_rule _ _ = None

-- what a symbol leads to at a mark: each symbol stands for what begins with such a mark and goes on with these
abbrev pub step : Symbol → Mark → Option (List Symbol)
step (The wanted) m = where_it_is (is wanted m) []
step AnyName m = where_it_is (is_name m) []
step (InText part) m = text_rule part m
step (InList part) m = list_rule part m
step (InAction part) m = action_rule part m
step (InCondition part) m = condition_rule part m
step (InEffect part) m = effect_rule part m
step (InValue part) m = value_rule part m
step (InGoal part) m = goal_rule part m
