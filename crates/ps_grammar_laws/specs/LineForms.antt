-- The grammar of a line of each form, over its nested lists, from its first word on.
use Rattle.std.specs.Prelude.{◌≡◌, ℕ, zero, suc, true, List}
use Rattle.ps_grammar.specs.Marks.{is_name}
use Rattle.ps_grammar.specs.Shape.{Derives, IsShallowFrom, deepest}
use Rattle.ps_grammar.specs.declared.marks.Mark.TheVariants as mark
use Rattle.ps_lists.specs.Conditions.{IsAtomOf, IsConditionOf, goals}
use Rattle.ps_lists.specs.Lexemes.{marks}
use Rattle.ps_lists.specs.Nested.{Nested, Nesteds, word, group, none, more}
use Rattle.ps_lists.specs.Spelling.{SpellAll}
use Rattle.ps_lists.specs.declared.lexemes.Lexeme.{Lexeme}
use Rattle.ps_script.specs.Forms.{start_of}
use Rattle.ps_script.specs.declared.forms.Form.{Form}
use Rattle.ps_script.specs.declared.forms.Form.TheVariants.{SetInstance, SetPredicate, SetFunction, SetGoal, RemoveInstance, RemovePredicate, RemoveFunction, RemoveGoal, ModelTypes, ModelPredicates, ModelFunctions, ModelActions, ModelPredicate, ModelAction, Domain, ProblemInstances, ProblemPredicates, ProblemFunctions, ProblemGoal, Plan, Quit, Tree, Run, RunAction}

-- nothing more
abbrev pub IsEnd : Nesteds → Type 0
IsEnd ts = ts ≡ none

-- this, and nothing more
abbrev pub IsOne : (Nested → Type 0) → Nesteds → Type 0
IsOne P none = ⊥
IsOne P (more t ts) = P t × IsEnd ts

-- so many names, and then this
abbrev pub Names : ℕ → (Nesteds → Type 0) → Nesteds → Type 0
Names zero Then ts = Then ts
Names (suc n) Then (more (word l) ts) = (is_name l.mark ≡ true) × Names n Then ts
Names (suc n) Then ts = ⊥

-- FACT: (NAME TERM*), where its scope lets no variable stand
abbrev pub IsFact : Nested → Type 0
IsFact t = IsAtomOf goals deepest t

-- GOAL: a condition, where its scope lets no variable stand that no quantifier binds
abbrev pub IsGoal : Nested → Type 0
IsGoal t = IsConditionOf goals deepest t

-- (= (NAME TERM*) NUMBER)
pub data IsSetting : ℕ → Nested → Type 0 where
  setting : (room : ℕ) (l n : Lexeme) (a : Nested) → l.mark ≡ mark.Equal → IsAtomOf goals room a → n.mark ≡ mark.Number → IsSetting (suc room) (group (more (word l) (more a (more (word n) none))))

-- A line of a form: its fixed words, which are names, and what it states or asks for after them.
abbrev pub IsLineForm : Form → Nesteds → Type 0
-- set instance NAME TYPE
IsLineForm SetInstance ts = Names 4 IsEnd ts
-- set predicate FACT
IsLineForm SetPredicate ts = Names 2 (IsOne IsFact) ts
-- set function (= (NAME TERM*) NUMBER)
IsLineForm SetFunction ts = Names 2 (IsOne (IsSetting deepest)) ts
-- set goal GOAL
IsLineForm SetGoal ts = Names 2 (IsOne IsGoal) ts
-- remove instance NAME
IsLineForm RemoveInstance ts = Names 3 IsEnd ts
-- remove predicate FACT
IsLineForm RemovePredicate ts = Names 2 (IsOne IsFact) ts
-- remove function FACT
IsLineForm RemoveFunction ts = Names 2 (IsOne IsFact) ts
-- remove goal
IsLineForm RemoveGoal ts = Names 2 IsEnd ts
-- get model types, predicates, functions, actions
IsLineForm ModelTypes ts = Names 3 IsEnd ts
IsLineForm ModelPredicates ts = Names 3 IsEnd ts
IsLineForm ModelFunctions ts = Names 3 IsEnd ts
IsLineForm ModelActions ts = Names 3 IsEnd ts
-- get model predicate NAME
IsLineForm ModelPredicate ts = Names 4 IsEnd ts
-- get model action NAME
IsLineForm ModelAction ts = Names 4 IsEnd ts
-- get domain
IsLineForm Domain ts = Names 2 IsEnd ts
-- get problem instances, predicates, functions, goal
IsLineForm ProblemInstances ts = Names 3 IsEnd ts
IsLineForm ProblemPredicates ts = Names 3 IsEnd ts
IsLineForm ProblemFunctions ts = Names 3 IsEnd ts
IsLineForm ProblemGoal ts = Names 3 IsEnd ts
-- get plan
IsLineForm Plan ts = Names 2 IsEnd ts
-- quit
IsLineForm Quit ts = Names 1 IsEnd ts
-- get tree
IsLineForm Tree ts = Names 2 IsEnd ts
-- run
IsLineForm Run ts = Names 1 IsEnd ts
-- run action (NAME TERM*)
IsLineForm RunAction ts = Names 2 (IsOne IsFact) ts

-- The lists of a line whose words fit a form are a line of that form.
abbrev pub JudgedLinesAreGrammatical : Type 0
JudgedLinesAreGrammatical = (f : Form) (ts : Nesteds) (ls : List Lexeme) → SpellAll ts ls → Derives (start_of f) (marks ls) → IsShallowFrom (start_of f) (marks ls) → IsLineForm f ts

-- The words of a line of a form fit it.
abbrev pub GrammaticalLinesAreJudged : Type 0
GrammaticalLinesAreJudged = (f : Form) (ts : Nesteds) (ls : List Lexeme) → SpellAll ts ls → IsLineForm f ts → Derives (start_of f) (marks ls) × IsShallowFrom (start_of f) (marks ls)
