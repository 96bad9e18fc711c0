-- The texts of facts, goals and edits, and of why an edit is refused. A text is a list of bytes.
use Rattle.std.specs.Prelude.{ℕ, List, [], ◌++◌, codes}
use Rattle.std.specs.List.{flat_map}
use Rattle.std.specs.Fmt.{decimal}
use Rattle.ps_world.specs.Names.{Table, name_text}
use Rattle.ps_world.specs.Numbers.{number_text}
use Rattle.ps_world.specs.CondViews.{cond_tree}
use Rattle.ps_world.specs.DomainTexts.{cond_text}
use Rattle.ps_world.specs.declared.names.Name.{Name}
use Rattle.ps_world.specs.declared.facts.Fact.{Fact}
use Rattle.ps_world.specs.declared.numbers.Num.{Num}
use Rattle.ps_world.specs.declared.conditions.Cond.{Cond}
use Rattle.ps_world.specs.declared.edits.Edit.{Edit}
use Rattle.ps_world.specs.declared.edits.Edit.TheVariants.{AddInstance, RemoveInstance, AddFact, RemoveFact, SetValue, RemoveValue, SetGoal, RemoveGoal}
use Rattle.ps_world.specs.declared.edits.EditRefusal.{EditRefusal}
use Rattle.ps_world.specs.declared.edits.EditRefusal.TheVariants.{NoType, InstanceThere, Full, NoInstance, Constant, NoPredicate, Arity, WrongType, NoFact, NoFunction, NoValue, NoGoal}

-- names, each after a space
abbrev pub args_text : Table → List Name → List ℕ
args_text names ns = flat_map (λ n. codes " " ++ name_text names n) ns

-- a fact, as (robot_at leia hall)
abbrev pub fact_text : Table → Fact → List ℕ
fact_text names f = codes "(" ++ (name_text names f.head ++ (args_text names f.args ++ codes ")"))

-- a function term with its value, as (= (load c1) 0.001)
abbrev pub value_text : Table → Fact → Num → List ℕ
value_text names f x = codes "(= " ++ (fact_text names f ++ (codes " " ++ (number_text x ++ codes ")")))

-- a goal, in which no variable stands but those that its quantifiers bind
abbrev pub goal_text : Table → Cond → List ℕ
goal_text names goal = cond_text names [] (cond_tree goal)

-- an edit, as a line of the terminal says it
abbrev pub edit_text : Table → Edit → List ℕ
edit_text names (AddInstance n t) = codes "set instance " ++ (name_text names n ++ (codes " " ++ name_text names t))
edit_text names (RemoveInstance n) = codes "remove instance " ++ name_text names n
edit_text names (AddFact f) = codes "set predicate " ++ fact_text names f
edit_text names (RemoveFact f) = codes "remove predicate " ++ fact_text names f
edit_text names (SetValue f x) = codes "set function " ++ value_text names f x
edit_text names (RemoveValue f) = codes "remove function " ++ fact_text names f
edit_text names (SetGoal goal) = codes "set goal " ++ goal_text names goal
edit_text names RemoveGoal = codes "remove goal"

-- the cause for which an edit is refused
abbrev pub edit_refusal_text : Table → EditRefusal → List ℕ
edit_refusal_text names NoType = codes "NoType"
edit_refusal_text names InstanceThere = codes "InstanceThere"
edit_refusal_text names Full = codes "Full"
edit_refusal_text names (NoInstance n) = codes "NoInstance " ++ name_text names n
edit_refusal_text names Constant = codes "Constant"
edit_refusal_text names NoPredicate = codes "NoPredicate"
edit_refusal_text names (Arity want got) = codes "Arity " ++ (decimal want ++ (codes " " ++ decimal got))
edit_refusal_text names (WrongType at) = codes "WrongType " ++ decimal at
edit_refusal_text names NoFact = codes "NoFact"
edit_refusal_text names NoFunction = codes "NoFunction"
edit_refusal_text names NoValue = codes "NoValue"
edit_refusal_text names NoGoal = codes "NoGoal"
