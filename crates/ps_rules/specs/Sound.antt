-- Sound inputs: those that the limits of a session allow. That the domain is well formed is said beside this, by the crate that reads
-- domains.
use Rattle.std.specs.Prelude.{◌≡◌, ℕ, suc, ◌≤◌, max, nat_lt, Bool, true, false, ◌&&◌, not, Ok, Option, IfSome, IsTrue, All, List, [], ◌∷◌, ◌++◌, length}
use Rattle.std.specs.List.{AllPairs, list_all}
use Rattle.std.specs.Option.{IsSomeAnd}
use Rattle.ps_world.specs.Names.{same_name}
use Rattle.ps_world.specs.Trees.{ExprTree, number, value_of, negated, operated, CondTree, CondTrees, all_of, any_of, no, implied, holds, same, compares, is_a, for_some, for_all, none, more}
use Rattle.ps_world.specs.Leaves.{Leaves, AllIn}
use Rattle.ps_world.specs.CondViews.{cond_tree}
use Rattle.ps_world.specs.Knowledge.{action_of}
use Rattle.ps_world.specs.declared.names.Name.{Name}
use Rattle.ps_world.specs.declared.schemas.Term.{Term}
use Rattle.ps_world.specs.declared.schemas.Term.TheVariants.{Var, Const}
use Rattle.ps_world.specs.declared.schemas.Lifted.{Lifted}
use Rattle.ps_world.specs.declared.conditions.Cond.{Cond}
use Rattle.ps_world.specs.declared.domains.Domain.{Domain}
use Rattle.ps_world.specs.declared.domains.Param.{Param}
use Rattle.ps_world.specs.declared.edits.Edit.{Edit}
use Rattle.ps_world.specs.declared.edits.Edit.TheVariants.{SetGoal}
use Rattle.ps_machine.specs.Tables.{is_note}
use Rattle.ps_machine.specs.declared.inputs.Command.TheVariants as command
use Rattle.ps_machine.specs.declared.inputs.Line.{Line}
use Rattle.ps_machine.specs.declared.inputs.Line.TheVariants.{Good}
use Rattle.ps_machine.specs.declared.inputs.Input.{Input}
use Rattle.ps_machine.specs.declared.members.Unit.{Unit as Task}
use Rattle.ps_machine.specs.declared.members.Unit.TheVariants as unit
use Rattle.ps_machine.specs.declared.members.Member.{Member}
use Rattle.ps_machine.specs.declared.members.Member.TheVariants as member
use Rattle.ps_machine.specs.declared.members.Performer.{Performer}
use Rattle.ps_machine.specs.declared.members.Observer.{Observer}
use Rattle.ps_rules.specs.Members.{observers, performers}

-- ---- conditions that a script may write

-- whether a term is a name, or a variable in force
abbrev pub is_bound : List Param → Term → Bool
is_bound ps (Var i) = nat_lt i (length ps)
is_bound ps (Const n) = true

-- whether all arguments of a head are
abbrev pub are_bound : List Param → Lifted → Bool
are_bound ps l = list_all (is_bound ps) l.terms

-- whether no other variable stands in an expression
abbrev pub is_bound_expr : List Param → ExprTree → Bool
is_bound_expr ps (number n) = true
is_bound_expr ps (value_of l) = are_bound ps l
is_bound_expr ps (negated x) = is_bound_expr ps x
is_bound_expr ps (operated op x y) = is_bound_expr ps x && is_bound_expr ps y

-- what a condition's leaves are in a script: no variable stands there but those in force, of which there are two at most, and no type is asked for
abbrev pub script_leaves : Leaves
script_leaves = record {
  atom = λ ps l. IsTrue (are_bound ps l);
  term = λ ps t. IsTrue (is_bound ps t);
  value = λ ps x. IsTrue (is_bound_expr ps x);
  kind = λ ps kind. ⊥;
  bound = λ ps qs. length (ps ++ qs) ≤ 2;
  either = Unit {0};
}

-- a condition of such leaves: no variable is free in it
abbrev pub IsClosedCond : CondTree → Type 0
IsClosedCond c = AllIn script_leaves [] c

-- how many parentheses the text of an expression has open at one place, at most
abbrev pub expr_opens : ExprTree → ℕ
expr_opens (number n) = 0
expr_opens (value_of l) = 1
expr_opens (negated x) = suc (expr_opens x)
expr_opens (operated op x y) = suc (max (expr_opens x) (expr_opens y))

-- the same of the text of a condition
abbrev mutual
  pub cond_opens : CondTree → ℕ
  cond_opens (all_of cs) = suc (conds_open cs)
  cond_opens (any_of cs) = suc (conds_open cs)
  cond_opens (no c) = suc (cond_opens c)
  cond_opens (implied a b) = suc (max (cond_opens a) (cond_opens b))
  cond_opens (holds l) = 1
  cond_opens (same s t) = 1
  cond_opens (compares rel x y) = suc (max (expr_opens x) (expr_opens y))
  cond_opens (is_a t kind) = 0
  cond_opens (for_some ps c) = suc (max 1 (cond_opens c))
  cond_opens (for_all ps c) = suc (max 1 (cond_opens c))

  pub conds_open : CondTrees → ℕ
  conds_open none = 0
  conds_open (more c cs) = max (cond_opens c) (conds_open cs)

-- a condition that a script may write: no variable is free in it, and at most 64 parentheses are open at one place
pub record IsScriptCond (c : Cond) : Type 0 where
  pub closed : IsClosedCond (cond_tree c)
  pub shallow : cond_opens (cond_tree c) ≤ 64

-- an edit that a script may write: so is its goal, where it sets one
abbrev pub IsScriptEdit : Edit → Type 0
IsScriptEdit (SetGoal goal) = IsScriptCond goal
IsScriptEdit edit = Unit {0}

-- ---- members

-- whether a unit ends a job
abbrev pub is_end : Task → Bool
is_end (unit.Finish ok) = true
is_end u = false

-- whether the last unit of a job ends it, and no other does
abbrev pub ends_once : List Task → Bool
ends_once [] = false
ends_once (u ∷ []) = is_end u
ends_once (u ∷ v ∷ units) = not (is_end u) && ends_once (v ∷ units)

-- a unit that a member may do: feedback is a percentage with a note in form, and an edit is one that a script may write
abbrev pub IsSoundUnit : Task → Type 0
IsSoundUnit unit.Work = Unit {0}
IsSoundUnit (unit.Feedback percent note) = (percent ≤ 100) × IsTrue (is_note note)
IsSoundUnit (unit.Edit edit) = IsScriptEdit edit
IsSoundUnit (unit.Finish ok) = Unit {0}

-- a job of 1 to 1,000 sound units, of which the last and no other ends it
pub record IsSoundJob (units : List Task) : Type 0 where
  pub short : length units ≤ 1000
  pub ended : IsTrue (ends_once units)
  pub each : All IsSoundUnit units

-- a performer has an action of the domain, a pattern with one place for each parameter, and 1 to 64 sound jobs
pub record IsSoundPerformer (d : Domain) (p : Performer) : Type 0 where
  pub action : IsSomeAnd (action_of d p.action) (λ a. length p.pattern ≡ length a.params)
  pub some_job : 1 ≤ length p.jobs
  pub few_jobs : length p.jobs ≤ 64
  pub jobs : All IsSoundJob p.jobs

-- a condition and an edit of an observer are such that a script may write them
abbrev pub IsSoundItem : Option Cond × Edit → Type 0
IsSoundItem item = IfSome item.0 IsScriptCond × IsScriptEdit item.1

-- an observer has at most 1,000 sound units
pub record IsSoundObserver (o : Observer) : Type 0 where
  pub short : length o.units ≤ 1000
  pub units : All IsSoundItem o.units

-- the name of a member
abbrev pub member_name : Member → Name
member_name (member.Performer p) = p.name
member_name (member.Observer o) = o.name

-- ---- lines

-- a line that a script may have: its edit is one that a script may write, and its plan has at most 256 steps
abbrev pub IsSoundLine : Line → Type 0
IsSoundLine (Good (command.Edit edit)) = IsScriptEdit edit
IsSoundLine (Good (command.RunPlan (Ok steps))) = length steps ≤ 256
IsSoundLine line = Unit {0}

-- ---- inputs

-- an input within the limits
pub record IsSound (i : Input) : Type 0 where
  pub few_performers : length (performers i) ≤ 64
  pub few_observers : length (observers i) ≤ 16
  pub names_differ : AllPairs (λ m n. same_name (member_name m) (member_name n) ≡ false) i.members
  pub each_performer : All (IsSoundPerformer i.domain) (performers i)
  pub each_observer : All IsSoundObserver (observers i)
  pub few_lines : length i.lines ≤ 10000
  pub each_line : All IsSoundLine i.lines
  pub some_budget : 1 ≤ i.budget
  pub bounded_budget : i.budget ≤ 200000
  pub few_replans : i.replans ≤ 8
