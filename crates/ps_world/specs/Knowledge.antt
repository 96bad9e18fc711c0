-- What is known, and how an edit changes it.
use Rattle.std.specs.Prelude.{ℕ, Bool, false, not, ◌||◌, ◌==◌, ◌+◌, suc, zero, nat_le, if◌then◌else◌, Option, Some, None, is_none, is_some, Result, Ok, Err, List, [], ◌∷◌, ◌++◌, filter, length, find, fold, map, slice_index_or}
use Rattle.std.specs.List.{list_all, list_any}
use Rattle.std.specs.Option.{option_map, option_map_or, option_or}
use Rattle.std.specs.BTreeMap.{insert_entry}
use Rattle.std.specs.BTreeSet.{insert_key}
use Rattle.std.specs.Map.{lookup}
use Rattle.std.specs.Ordering.{is_eq}
use Rattle.ps_world.specs.Names.{same_name, name_cmp, object}
use Rattle.ps_world.specs.Facts.{fact_cmp}
use Rattle.ps_world.specs.Trees.{ExprTree, number, value_of, negated, operated, CondTree, CondTrees, all_of, any_of, no, implied, holds, same, compares, is_a, for_some, for_all, none, more}
use Rattle.ps_world.specs.CondViews.{cond_tree}
use Rattle.ps_world.specs.declared.names.Name.{Name}
use Rattle.ps_world.specs.declared.numbers.Num.{Num}
use Rattle.ps_world.specs.declared.schemas.Term.{Term}
use Rattle.ps_world.specs.declared.schemas.Term.TheVariants.{Var, Const}
use Rattle.ps_world.specs.declared.schemas.Lifted.{Lifted}
use Rattle.ps_world.specs.declared.conditions.Cond.{Cond}
use Rattle.ps_world.specs.declared.facts.Fact.{Fact}
use Rattle.ps_world.specs.declared.domains.Param.{Param}
use Rattle.ps_world.specs.declared.domains.Decl.{Decl}
use Rattle.ps_world.specs.declared.domains.Domain.{Domain}
use Rattle.ps_world.specs.declared.actions.ActionDef.{ActionDef}
use Rattle.ps_world.specs.declared.known.Knowledge.{Knowledge}
use Rattle.ps_world.specs.declared.edits.Edit.{Edit}
use Rattle.ps_world.specs.declared.edits.Edit.TheVariants.{AddInstance, RemoveInstance, AddFact, RemoveFact, SetValue, RemoveValue, SetGoal, RemoveGoal}
use Rattle.ps_world.specs.declared.edits.EditRefusal.{EditRefusal}
use Rattle.ps_world.specs.declared.edits.EditRefusal.TheVariants.{NoType, InstanceThere, Full, NoInstance, Constant, NoPredicate, Arity, WrongType, NoFact, NoFunction, NoValue, NoGoal}

-- whether the domain has this type
abbrev pub is_type : Domain → Name → Bool
is_type d t = same_name t object || list_any (λ p. same_name t p.name) d.types

-- the parent of a declared type
abbrev pub parent_of : Domain → Name → Option Name
parent_of d t = option_map (λ p. p.kind) (find (λ p. same_name t p.name) d.types)

-- whether the type is the higher one, or at most so many parents away from it
abbrev pub climbs : ℕ → Domain → Name → Name → Bool
climbs zero d low high = same_name low high
climbs (suc n) d low high =
    same_name low high || option_map_or (λ parent. climbs n d parent high) (parent_of d low) false

-- whether the first type is the second or below it: no way up is longer than there are types
abbrev pub is_below : Domain → Name → Name → Bool
is_below d low high = climbs (length d.types) d low high

-- the declaration of a predicate
abbrev pub predicate_of : Domain → Name → Option Decl
predicate_of d head = find (λ decl. same_name head decl.name) d.predicates

-- the declaration of a function
abbrev pub function_of : Domain → Name → Option Decl
function_of d head = find (λ decl. same_name head decl.name) d.functions

-- a declared action
abbrev pub action_of : Domain → Name → Option ActionDef
action_of d n = find (λ action. same_name n action.name) d.actions

-- a declared constant, with its type
abbrev pub constant_of : Domain → Name → Option Param
constant_of d n = find (λ p. same_name n p.name) d.constants

-- the type of an instance
abbrev pub kind_of : Knowledge → Name → Option Name
kind_of k n = lookup (same_name n) k.instances

-- why a name of this type can't stand at a place where that type is wanted, if it can't, as a refusal says it: by the name that
-- is no instance, or by the place whose type it doesn't fit
abbrev pub misfit_by : {R : Type 0} → (Name → R) → (ℕ → R) → Domain → Option Name → Name → Name → ℕ → Option R
misfit_by unknown unfit d None want n at = Some (unknown n)
misfit_by unknown unfit d (Some kind) want n at = if is_below d kind want then None else Some (unfit at)

-- the first fault of what stands at the places of parameters, counted from this place on, where this is the fault of one at a place where a
-- type is wanted
abbrev pub first_fault : {A R : Type 0} → (A → Name → ℕ → Option R) → List Param → List A → ℕ → Option R
first_fault fault [] xs at = None
first_fault fault (p ∷ ps) [] at = None
first_fault fault (p ∷ ps) (x ∷ xs) at = option_or (fault x p.kind at) (first_fault fault ps xs (at + 1))

-- the first argument that is no instance, or that doesn't fit its parameter, counted from this place on, as a refusal says it
abbrev pub first_misfit_by : {R : Type 0} → (Name → R) → (ℕ → R) → Domain → List (Name × Name) → List Param → List Name → ℕ → Option R
first_misfit_by unknown unfit d instances ps ns at =
    first_fault (λ n want i. misfit_by unknown unfit d (lookup (same_name n) instances) want n i) ps ns at

-- the first refusal, if there is one, else the second
abbrev pub or_else : Option EditRefusal → Option EditRefusal → Option EditRefusal
or_else one other = option_or one other

-- the same two of an edit
abbrev pub misfit : Domain → Option Name → Name → Name → ℕ → Option EditRefusal
misfit d kind want n at = misfit_by NoInstance WrongType d kind want n at

abbrev pub first_misfit : Domain → Knowledge → List Param → List Name → ℕ → Option EditRefusal
first_misfit d k ps ns at = first_misfit_by NoInstance WrongType d k.instances ps ns at

-- why arguments don't suit a declaration, if they don't, where this is the fault of one at a place where a type is wanted; the refusal is the
-- one where there is no declaration
abbrev pub unsuited_by : {A : Type 0} → (A → Name → ℕ → Option EditRefusal) → EditRefusal → Option Decl → List A → Option EditRefusal
unsuited_by fault missing None xs = Some missing
unsuited_by fault missing (Some decl) xs =
    if length decl.params == length xs then first_fault fault decl.params xs 0
    else Some (Arity (length decl.params) (length xs))

-- why names don't suit a declaration, if they don't
abbrev pub unsuited : EditRefusal → Domain → Knowledge → Option Decl → List Name → Option EditRefusal
unsuited missing d k decl ns = unsuited_by (λ n want at. misfit d (kind_of k n) want n at) missing decl ns

-- why a fact can't be spoken of, if it can't
abbrev pub fault_of_fact : Domain → Knowledge → Fact → Option EditRefusal
fault_of_fact d k f = unsuited NoPredicate d k (predicate_of d f.head) f.args

-- why a function's value can't be spoken of, if it can't
abbrev pub fault_of_value : Domain → Knowledge → Fact → Option EditRefusal
fault_of_value d k f = unsuited NoFunction d k (function_of d f.head) f.args

-- ---- heads in which every term is a name

-- the name that a term is
abbrev pub name_of : Term → Name
name_of (Var i) = object
name_of (Const n) = n

-- a head with its arguments
abbrev pub ground : Lifted → Fact
ground l = record { head = l.head; args = map name_of l.terms }

-- ---- goals, in which a variable stands for each instance of its type; these are the types of the variables in force, outer ones first

-- why a term can't stand at a place where that type is wanted, if it can't: a variable has its own type
abbrev pub misfit_of_term : Domain → Knowledge → List Name → Term → Name → ℕ → Option EditRefusal
misfit_of_term d k kinds (Var i) want at = misfit d (Some (slice_index_or kinds i object)) want object at
misfit_of_term d k kinds (Const n) want at = misfit d (kind_of k n) want n at

-- why a predicate can't be asked for at these terms, if it can't
abbrev pub fault_of_atom : Domain → Knowledge → List Name → Lifted → Option EditRefusal
fault_of_atom d k kinds l = unsuited_by (misfit_of_term d k kinds) NoPredicate (predicate_of d l.head) l.terms

-- why a function's value can't be asked for at these terms, if it can't
abbrev pub fault_of_call : Domain → Knowledge → List Name → Lifted → Option EditRefusal
fault_of_call d k kinds l = unsuited_by (misfit_of_term d k kinds) NoFunction (function_of d l.head) l.terms

-- why a number can't be asked for, if it can't: the first fault in the order of the text
abbrev pub fault_of_expr : Domain → Knowledge → List Name → ExprTree → Option EditRefusal
fault_of_expr d k kinds (number n) = None
fault_of_expr d k kinds (value_of l) = fault_of_call d k kinds l
fault_of_expr d k kinds (negated x) = fault_of_expr d k kinds x
fault_of_expr d k kinds (operated op x y) = or_else (fault_of_expr d k kinds x) (fault_of_expr d k kinds y)

-- why a side of a (= a b) is no instance, if it is none: a variable stands for one
abbrev pub fault_of_side : Knowledge → Term → Option EditRefusal
fault_of_side k (Var i) = None
fault_of_side k (Const n) = if is_none (kind_of k n) then Some (NoInstance n) else None

-- why variables can't be bound, if they can't: the type of one isn't declared
abbrev pub fault_of_bound : Domain → List Param → Option EditRefusal
fault_of_bound d ps = if list_all (λ p. is_type d p.kind) ps then None else Some NoType

-- the types of variables
abbrev pub kinds_of : List Param → List Name
kinds_of ps = map (λ p. p.kind) ps

abbrev mutual
  -- why a condition can't be a goal, if it can't: the first fault in the order of the text
  pub fault_of_cond : Domain → Knowledge → List Name → CondTree → Option EditRefusal
  fault_of_cond d k kinds (all_of cs) = fault_of_conds d k kinds cs
  fault_of_cond d k kinds (any_of cs) = fault_of_conds d k kinds cs
  fault_of_cond d k kinds (no c) = fault_of_cond d k kinds c
  fault_of_cond d k kinds (implied a b) = or_else (fault_of_cond d k kinds a) (fault_of_cond d k kinds b)
  fault_of_cond d k kinds (holds l) = fault_of_atom d k kinds l
  fault_of_cond d k kinds (same s t) = or_else (fault_of_side k s) (fault_of_side k t)
  fault_of_cond d k kinds (compares rel x y) = or_else (fault_of_expr d k kinds x) (fault_of_expr d k kinds y)
  fault_of_cond d k kinds (is_a t kind) = None
  fault_of_cond d k kinds (for_some ps c) = or_else (fault_of_bound d ps) (fault_of_cond d k (kinds ++ kinds_of ps) c)
  fault_of_cond d k kinds (for_all ps c) = or_else (fault_of_bound d ps) (fault_of_cond d k (kinds ++ kinds_of ps) c)

  -- the same of several, one after another
  pub fault_of_conds : Domain → Knowledge → List Name → CondTrees → Option EditRefusal
  fault_of_conds d k kinds none = None
  fault_of_conds d k kinds (more c cs) = or_else (fault_of_cond d k kinds c) (fault_of_conds d k kinds cs)

-- ---- what names an instance: a head, a type and a variable name none

-- whether the name is among these arguments
abbrev pub is_among : Name → List Name → Bool
is_among n ns = list_any (same_name n) ns

-- whether a term is this name
abbrev pub term_names : Name → Term → Bool
term_names n (Var i) = false
term_names n (Const m) = same_name n m

-- whether one of several is
abbrev pub terms_name : Name → List Term → Bool
terms_name n ts = list_any (term_names n) ts

-- whether an expression names it
abbrev pub expr_names : Name → ExprTree → Bool
expr_names n (number m) = false
expr_names n (value_of l) = terms_name n l.terms
expr_names n (negated x) = expr_names n x
expr_names n (operated op x y) = expr_names n x || expr_names n y

abbrev mutual
  -- whether a condition names it, as an argument or in a (= a b)
  pub cond_names : Name → CondTree → Bool
  cond_names n (all_of cs) = conds_name n cs
  cond_names n (any_of cs) = conds_name n cs
  cond_names n (no c) = cond_names n c
  cond_names n (implied a b) = cond_names n a || cond_names n b
  cond_names n (holds l) = terms_name n l.terms
  cond_names n (same s t) = term_names n s || term_names n t
  cond_names n (compares rel x y) = expr_names n x || expr_names n y
  cond_names n (is_a t kind) = term_names n t
  cond_names n (for_some ps c) = cond_names n c
  cond_names n (for_all ps c) = cond_names n c

  -- whether one of several does
  pub conds_name : Name → CondTrees → Bool
  conds_name n none = false
  conds_name n (more c cs) = cond_names n c || conds_name n cs

-- the goal, unless it names the instance
abbrev pub goal_without : Name → Option Cond → Option Cond
goal_without n None = None
goal_without n (Some goal) = if cond_names n (cond_tree goal) then None else Some goal

-- the knowledge without an instance, and without every fact and value and the goal that name it
abbrev pub without : Name → Knowledge → Knowledge
without n k = record {
  instances = filter (λ i. not (same_name n i.0)) k.instances;
  facts = filter (λ f. not (is_among n f.args)) k.facts;
  values = filter (λ v. not (is_among n v.0.args)) k.values;
  goal = goal_without n k.goal;
}

-- ---- edits

-- the most instances
abbrev pub most_instances : ℕ
most_instances = 1000

-- the knowledge with an instance that has that type now, if it is one
abbrev pub with_instance : Knowledge → Name → Name → Option Name → Result Knowledge EditRefusal
with_instance k n t (Some kind) = if same_name kind t then Ok k else Err InstanceThere
with_instance k n t None =
    if nat_le most_instances (length k.instances) then Err Full
    else Ok (record k { instances = insert_entry name_cmp k.instances n t })

-- the knowledge without an instance that has that type now, if it is one; a constant of the domain stays
abbrev pub without_instance : Domain → Knowledge → Name → Option Name → Result Knowledge EditRefusal
without_instance d k n None = Err (NoInstance n)
without_instance d k n (Some kind) = if is_none (constant_of d n) then Ok (without n k) else Err Constant

-- this, unless something is at fault
abbrev pub unless : Option EditRefusal → Result Knowledge EditRefusal → Result Knowledge EditRefusal
unless (Some fault) new = Err fault
unless None new = new

-- whether two facts are the same
abbrev pub same_fact : Fact → Fact → Bool
same_fact f g = is_eq (fact_cmp f g)

-- whether a fact is known
abbrev pub is_known : Knowledge → Fact → Bool
is_known k f = list_any (same_fact f) k.facts

-- the value of a function term, if it has one
abbrev pub value_in : Knowledge → Fact → Option Num
value_in k f = lookup (same_fact f) k.values

-- the knowledge without a fact
abbrev pub without_fact : Knowledge → Fact → Result Knowledge EditRefusal
without_fact k f =
    if is_known k f then Ok (record k { facts = filter (λ g. not (same_fact f g)) k.facts }) else Err NoFact

-- the knowledge without a value
abbrev pub without_value : Knowledge → Fact → Result Knowledge EditRefusal
without_value k f =
    if is_some (value_in k f) then Ok (record k { values = filter (λ v. not (same_fact f v.0)) k.values }) else Err NoValue

-- the knowledge without its goal
abbrev pub without_goal : Knowledge → Option Cond → Result Knowledge EditRefusal
without_goal k None = Err NoGoal
without_goal k (Some goal) = Ok (record k { goal = None })

-- the knowledge after the edit, or the first refusal
abbrev pub edited : Domain → Knowledge → Edit → Result Knowledge EditRefusal
edited d k (AddInstance n t) = if is_type d t then with_instance k n t (kind_of k n) else Err NoType
edited d k (RemoveInstance n) = without_instance d k n (kind_of k n)
edited d k (AddFact f) = unless (fault_of_fact d k f) (Ok (record k { facts = insert_key fact_cmp k.facts f }))
edited d k (RemoveFact f) = unless (fault_of_fact d k f) (without_fact k f)
edited d k (SetValue f x) = unless (fault_of_value d k f) (Ok (record k { values = insert_entry fact_cmp k.values f x }))
edited d k (RemoveValue f) = unless (fault_of_value d k f) (without_value k f)
edited d k (SetGoal c) = unless (fault_of_cond d k [] (cond_tree c)) (Ok (record k { goal = Some c }))
edited d k RemoveGoal = without_goal k k.goal

-- instances with a constant put in, with its type
abbrev pub with_constant : List (Name × Name) → Param → List (Name × Name)
with_constant instances c = insert_entry name_cmp instances c.name c.kind

-- what a session opens with: the constants as its instances, and nothing else
abbrev pub opening : Domain → Knowledge
opening d = record { instances = fold with_constant [] d.constants; facts = []; values = []; goal = None }
