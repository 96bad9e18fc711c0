-- The edits, queries and acts that a line of the terminal can say, where these are the names.
use Rattle.std.specs.Prelude.{◌≡◌, ℕ, ◌≤◌, true, List, [], ◌++◌, codes, length, All}
use Rattle.ps_world.specs.Names.{Table, name_text}
use Rattle.ps_world.specs.Numbers.{IsCount}
use Rattle.ps_world.specs.Trees.{ExprTree, number, value_of, negated, operated, CondTree, CondTrees}
use Rattle.ps_world.specs.Leaves.{Leaves, AllIn, AllInEach}
use Rattle.ps_world.specs.CondViews.{cond_tree}
use Rattle.ps_world.specs.declared.names.Name.{Name}
use Rattle.ps_world.specs.declared.facts.Fact.{Fact}
use Rattle.ps_world.specs.declared.schemas.Lifted.{Lifted}
use Rattle.ps_world.specs.declared.conditions.Cond.{Cond}
use Rattle.ps_world.specs.declared.domains.Param.{Param}
use Rattle.ps_world.specs.declared.edits.Edit.{Edit}
use Rattle.ps_world.specs.declared.edits.Edit.TheVariants.{AddInstance, RemoveInstance, AddFact, RemoveFact, SetValue, RemoveValue, SetGoal, RemoveGoal}
use Rattle.ps_action.specs.declared.acts.Act.{Act}
use Rattle.ps_machine.specs.declared.inputs.Query.{Query}
use Rattle.ps_machine.specs.declared.inputs.Query.TheVariants.{ModelPredicate, ModelAction}
use Rattle.ps_rules.specs.Sound.{cond_opens}
use Rattle.ps_text.specs.declared.lexing.Class.TheVariants as class
use Rattle.ps_grammar.specs.Marks.{is_goal_name}
use Rattle.ps_grammar.specs.declared.marks.Mark.TheVariants as mark
use Rattle.ps_lists.specs.Lexemes.{mark_of}
use Rattle.ps_print.specs.CanonicalWords.{IsCondOf, IsNameOf}
use Rattle.ps_pddl.specs.WellFormed.{AreApart}

-- ---- facts

-- a head and its arguments: the names stand in the table, and there are at most 6 arguments
pub record IsHeadOf (count : ℕ) (n : Name) (ns : List Name) : Type 0 where
  pub head : IsNameOf count n
  pub args : All (IsNameOf count) ns
  pub few : length ns ≤ 6

-- the same of a fact
abbrev pub IsFactOf : ℕ → Fact → Type 0
IsFactOf count f = IsHeadOf count f.head f.args

-- the same of an act
abbrev pub IsActOf : ℕ → Act → Type 0
IsActOf count act = IsHeadOf count act.action act.args

-- ---- goals

-- at most 6 arguments
abbrev pub IsShort : Lifted → Type 0
IsShort l = length l.terms ≤ 6

-- a name may stand at the head of a fact in a goal: it is none of `and`, `not`, `or`, `imply`, `exists`, `forall` and `when`
abbrev pub IsGoalHead : Table → Name → Type 0
IsGoalHead names n = is_goal_name (mark_of class.Name (name_text names n)) ≡ true

-- an expression in which each function has at most 6 arguments
abbrev pub IsShortExpr : ExprTree → Type 0
IsShortExpr (number n) = Unit {0}
IsShortExpr (value_of l) = IsShort l
IsShortExpr (negated x) = IsShortExpr x
IsShortExpr (operated op x y) = IsShortExpr x × IsShortExpr y

-- variables that a quantifier binds where these are in force: with those there are two at most, each has a name of its own, and none of them
-- is named `duration`
pub record AreBindable (names : Table) (ps qs : List Param) : Type 0 where
  pub few : length (ps ++ qs) ≤ 2
  pub apart : AreApart (λ p. p.name) (ps ++ qs)
  pub free : All (λ q. mark_of class.Variable (codes "?" ++ name_text names q.name) ≡ mark.Variable) qs

-- what is said of a goal's leaves here: each fact and function has at most 6 arguments, each fact a head that may stand there, and each
-- quantifier variables that it can bind
abbrev pub sayable_leaves : Table → Leaves
sayable_leaves names = record {
  atom = λ ps l. IsShort l × IsGoalHead names l.head;
  term = λ ps t. Unit {0};
  value = λ ps x. IsShortExpr x;
  kind = λ ps kind. Unit {0};
  bound = λ ps qs. AreBindable names ps qs;
  either = Unit {0};
}

-- a condition of such leaves, where these variables are in force
abbrev pub HasGoalHeads : Table → List Param → CondTree → Type 0
HasGoalHeads names ps c = AllIn (sayable_leaves names) ps c

-- the same of several
abbrev pub HaveGoalHeads : Table → List Param → CondTrees → Type 0
HaveGoalHeads names ps cs = AllInEach (sayable_leaves names) ps cs

-- A goal that a line can say: its names stand in the table, its numbers are in range, no variable is free in it and none in it says that
-- an instance has a type, its heads may stand where they do, its variables can be bound where they are, and at most 64 parentheses are open
-- at one place.
pub record IsGoalOf (names : Table) (goal : Cond) : Type 0 where
  pub known : IsCondOf (length names) [] (cond_tree goal)
  pub heads : HasGoalHeads names [] (cond_tree goal)
  pub shallow : cond_opens (cond_tree goal) ≤ 64

-- ---- edits and queries

-- an edit that a line can say
abbrev pub IsEditOf : Table → Edit → Type 0
IsEditOf names (AddInstance n kind) = IsNameOf (length names) n × IsNameOf (length names) kind
IsEditOf names (RemoveInstance n) = IsNameOf (length names) n
IsEditOf names (AddFact f) = IsFactOf (length names) f
IsEditOf names (RemoveFact f) = IsFactOf (length names) f
IsEditOf names (SetValue f x) = IsFactOf (length names) f × IsCount x
IsEditOf names (RemoveValue f) = IsFactOf (length names) f
IsEditOf names (SetGoal goal) = IsGoalOf names goal
IsEditOf names RemoveGoal = Unit {0}

-- a query that a line can say
abbrev pub IsQueryOf : Table → Query → Type 0
IsQueryOf names (ModelPredicate n) = IsNameOf (length names) n
IsQueryOf names (ModelAction n) = IsNameOf (length names) n
IsQueryOf names q = Unit {0}
