-- What can be said with a table can be said with each table that keeps its names.
use Rattle.std.proofs.Common.{◌≡◌, ℕ, ◌<◌, true, Ok, Err, List, [], ◌∷◌, ◌++◌, All, Some, length, sym, ◌∙◌, subst, codes}
use Rattle.std.proofs.lemmas.List.Elements.{All-weaker, All-nil, All-cons, All-head, All-tail}
use Rattle.std.proofs.lemmas.Option.{same_Some, slice_get_within, slice_get-get_or}
use Rattle.std.specs.List.{slice_get}
use Rattle.ps_world.specs.CondViews.{cond_tree}
use Rattle.ps_world.specs.Names.{Table, name_text}
use Rattle.ps_world.specs.Tables.{IsOf}
use Rattle.ps_world.specs.Trees.{ExprTree, number, value_of, negated, operated, CondTree, CondTrees, all_of, any_of, no, implied, holds, same, compares, is_a, for_some, for_all, none, more}
use Rattle.ps_world.specs.declared.actions.ActionDef.{ActionDef}
use Rattle.ps_world.specs.declared.conditions.Cond.{Cond}
use Rattle.ps_world.specs.declared.domains.Domain.{Domain}
use Rattle.ps_world.specs.declared.domains.Param.{Param}
use Rattle.ps_world.specs.declared.edits.Edit.{Edit}
use Rattle.ps_world.specs.declared.edits.Edit.TheVariants as edit
use Rattle.ps_world.specs.declared.facts.Fact.{Fact}
use Rattle.ps_world.specs.declared.names.Name.{Name}
use Rattle.ps_world.specs.declared.schemas.Lifted.{Lifted}
use Rattle.ps_world.specs.declared.schemas.Term.{Term}
use Rattle.ps_world.specs.declared.schemas.Term.TheVariants.{Var, Const}
use Rattle.ps_action.specs.declared.acts.Act.{Act}
use Rattle.ps_action.specs.declared.acts.PlanStep.{PlanStep}
use Rattle.ps_machine.specs.Tables.{IsActOf, IsStepOf}
use Rattle.ps_machine.specs.declared.inputs.Command.TheVariants as command
use Rattle.ps_machine.specs.declared.inputs.Line.{Line}
use Rattle.ps_machine.specs.declared.inputs.Line.TheVariants.{Good, Bad}
use Rattle.ps_machine.specs.declared.inputs.Query.{Query}
use Rattle.ps_machine.specs.declared.inputs.Query.TheVariants as query
use Rattle.ps_machine.specs.declared.members.Unit.{Unit as Task}
use Rattle.ps_machine.specs.declared.members.Unit.TheVariants as unit
use Rattle.ps_machine.specs.declared.members.Member.{Member}
use Rattle.ps_machine.specs.declared.members.Member.TheVariants as member
use Rattle.ps_machine.specs.declared.members.Observer.{Observer}
use Rattle.ps_machine.specs.declared.members.Performer.{Performer}
use Rattle.ps_grammar.specs.Marks.{is_goal_name}
use Rattle.ps_grammar.specs.declared.marks.Mark.TheVariants as mark
use Rattle.ps_text.specs.Names.{Keeps}
use Rattle.ps_text.specs.declared.lexing.Class.TheVariants as class
use Rattle.ps_lists.specs.Lexemes.{mark_of}
use Rattle.ps_print.specs.CanonicalWords.{AreCondsOf, IsCondOf, IsExprOf, IsLiftedOf, IsParamOf, IsTermOf}
use Rattle.ps_script_laws.specs.Sayable.{AreBindable, HasGoalHeads, HaveGoalHeads, IsEditOf, IsFactOf, IsGoalHead, IsGoalOf, IsQueryOf}
use Rattle.ps_history_laws.specs.Inputs.{IsSayableAction, IsSayableDomain, IsSayableLine, IsSayableMember, IsSayableObserver, IsSayablePerformer, IsSayableUnit}
use Rattle.ps_history_laws.specs.Laws.{SayableInputsStaySo}

module _ (t u : Table) (keeps : Keeps t u) where
  -- ---- names

  here : (n : Name) → n.0 < length t → slice_get u n.0 ≡ Some (name_text t n)
  here n lt = keeps n.0 lt ∙ slice_get-get_or t n.0 [] lt

  pub name-in : (n : Name) → IsOf (length t) n → IsOf (length u) n
  name-in n lt = slice_get_within u n.0 (name_text t n) (here n lt)

  text-same : (n : Name) → IsOf (length t) n → name_text u n ≡ name_text t n
  text-same n lt = same_Some (name_text u n) (name_text t n) (sym (slice_get-get_or u n.0 [] (name-in n lt)) ∙ here n lt)

  names-in : (ns : List Name) → All (IsOf (length t)) ns → All (IsOf (length u)) ns
  names-in ns h = All-weaker (IsOf (length t)) (IsOf (length u)) name-in ns h

  -- ---- goals

  param-in : (p : Param) → IsParamOf (length t) p → IsParamOf (length u) p
  param-in p h = (name-in p.name h.0, name-in p.kind h.1)

  -- where so many variables are in force
  module _ (vars : ℕ) where
    term-in : (x : Term) → IsTermOf (length t) vars x → IsTermOf (length u) vars x
    term-in (Var i) h = h
    term-in (Const n) h = name-in n h

    lifted-in : (l : Lifted) → IsLiftedOf (length t) vars l → IsLiftedOf (length u) vars l
    lifted-in l h = (name-in l.head h.0, All-weaker (IsTermOf (length t) vars) (IsTermOf (length u) vars) term-in l.terms h.1)

    expr-in : (x : ExprTree) → IsExprOf (length t) vars x → IsExprOf (length u) vars x
    expr-in (number n) h = h
    expr-in (value_of l) h = lifted-in l h
    expr-in (negated x) h = expr-in x h
    expr-in (operated op x y) h = (expr-in x h.0, expr-in y h.1)

  params-in : (qs : List Param) → All (IsParamOf (length t)) qs → All (IsParamOf (length u)) qs
  params-in qs h = All-weaker (IsParamOf (length t)) (IsParamOf (length u)) param-in qs h

  mutual
    cond-in : (ps : List Param) (c : CondTree) → IsCondOf (length t) ps c → IsCondOf (length u) ps c
    cond-in ps (all_of cs) h = conds-in ps cs h
    cond-in ps (any_of cs) h = (h.0, conds-in ps cs h.1)
    cond-in ps (no c) h = cond-in ps c h
    cond-in ps (implied a b) h = (h.0, (cond-in ps a h.1.0, cond-in ps b h.1.1))
    cond-in ps (holds l) h = lifted-in (length ps) l h
    cond-in ps (same x y) h = (term-in (length ps) x h.0, term-in (length ps) y h.1)
    cond-in ps (compares rel x y) h = (expr-in (length ps) x h.0, expr-in (length ps) y h.1)
    cond-in ps (is_a x kind) h = h
    cond-in ps (for_some qs c) h = (params-in qs h.0, cond-in (ps ++ qs) c h.1)
    cond-in ps (for_all qs c) h = (params-in qs h.0, cond-in (ps ++ qs) c h.1)

    conds-in : (ps : List Param) (cs : CondTrees) → AreCondsOf (length t) ps cs → AreCondsOf (length u) ps cs
    conds-in ps none h = h
    conds-in ps (more c cs) h = (cond-in ps c h.0, conds-in ps cs h.1)

  head-in : (n : Name) → IsOf (length t) n → IsGoalHead t n → IsGoalHead u n
  head-in n lt h = subst (λ (text : List ℕ). is_goal_name (mark_of class.Name text) ≡ true) (sym (text-same n lt)) h

  free-in : (qs : List Param) → All (IsParamOf (length t)) qs → All (λ q. mark_of class.Variable (codes "?" ++ name_text t q.name) ≡ mark.Variable) qs → All (λ q. mark_of class.Variable (codes "?" ++ name_text u q.name) ≡ mark.Variable) qs
  free-in [] k h = All-nil (λ (q : Param). mark_of class.Variable (codes "?" ++ name_text u q.name) ≡ mark.Variable)
  free-in (q ∷ qs) k h =
      All-cons (λ (q : Param). mark_of class.Variable (codes "?" ++ name_text u q.name) ≡ mark.Variable) q qs
      (subst (λ (text : List ℕ). mark_of class.Variable (codes "?" ++ text) ≡ mark.Variable) (sym (text-same q.name (All-head (IsParamOf (length t)) q qs k).0)) (All-head (λ (q : Param). mark_of class.Variable (codes "?" ++ name_text t q.name) ≡ mark.Variable) q qs h))
      (free-in qs (All-tail (IsParamOf (length t)) q qs k) (All-tail (λ (q : Param). mark_of class.Variable (codes "?" ++ name_text t q.name) ≡ mark.Variable) q qs h))

  bindable-in : (ps qs : List Param) → All (IsParamOf (length t)) qs → AreBindable t ps qs → AreBindable u ps qs
  bindable-in ps qs k h = record { few = h.few; apart = h.apart; free = free-in qs k h.free }

  mutual
    heads-in : (ps : List Param) (c : CondTree) → IsCondOf (length t) ps c → HasGoalHeads t ps c → HasGoalHeads u ps c
    heads-in ps (all_of cs) k h = all-heads-in ps cs k h
    heads-in ps (no c) k h = heads-in ps c k h
    heads-in ps (holds l) k h = (h.0, head-in l.head k.0 h.1)
    heads-in ps (same x y) k h = h
    heads-in ps (compares rel x y) k h = h
    heads-in ps (is_a x kind) k h = h
    heads-in ps (any_of cs) k h = (h.0, all-heads-in ps cs k.1 h.1)
    heads-in ps (implied a b) k h = (h.0, (heads-in ps a k.1.0 h.1.0, heads-in ps b k.1.1 h.1.1))
    heads-in ps (for_some qs c) k h = (bindable-in ps qs k.0 h.0, heads-in (ps ++ qs) c k.1 h.1)
    heads-in ps (for_all qs c) k h = (bindable-in ps qs k.0 h.0, heads-in (ps ++ qs) c k.1 h.1)

    all-heads-in : (ps : List Param) (cs : CondTrees) → AreCondsOf (length t) ps cs → HaveGoalHeads t ps cs → HaveGoalHeads u ps cs
    all-heads-in ps none k h = h
    all-heads-in ps (more c cs) k h = (heads-in ps c k.0 h.0, all-heads-in ps cs k.1 h.1)

  goal-in : (goal : Cond) → IsGoalOf t goal → IsGoalOf u goal
  goal-in goal h = record { known = cond-in [] (cond_tree goal) h.known; heads = heads-in [] (cond_tree goal) h.known h.heads; shallow = h.shallow }

  -- ---- lines

  fact-in : (f : Fact) → IsFactOf (length t) f → IsFactOf (length u) f
  fact-in f h = record { head = name-in f.head h.head; args = names-in f.args h.args; few = h.few }

  edit-in : (change : Edit) → IsEditOf t change → IsEditOf u change
  edit-in (edit.AddInstance n kind) h = (name-in n h.0, name-in kind h.1)
  edit-in (edit.RemoveInstance n) h = name-in n h
  edit-in (edit.AddFact f) h = fact-in f h
  edit-in (edit.RemoveFact f) h = fact-in f h
  edit-in (edit.SetValue f x) h = (fact-in f h.0, h.1)
  edit-in (edit.RemoveValue f) h = fact-in f h
  edit-in (edit.SetGoal goal) h = goal-in goal h
  edit-in edit.RemoveGoal h = h

  query-in : (q : Query) → IsQueryOf t q → IsQueryOf u q
  query-in (query.ModelPredicate n) h = name-in n h
  query-in (query.ModelAction n) h = name-in n h
  query-in q h = tt

  act-in : (act : Act) → IsActOf (length t) act → IsActOf (length u) act
  act-in act h = (name-in act.action h.0, names-in act.args h.1)

  step-in : (step : PlanStep) → IsStepOf (length t) step → IsStepOf (length u) step
  step-in step h = act-in step.act h

  pub line-in : (line : Line) → IsSayableLine t line → IsSayableLine u line
  line-in (Good (command.Edit change)) h = edit-in change h
  line-in (Good (command.Ask q)) h = query-in q h
  line-in (Good command.Run) h = h
  line-in (Good (command.RunAction act)) h = act-in act h
  line-in (Good (command.RunPlan (Ok steps))) h = All-weaker (IsStepOf (length t)) (IsStepOf (length u)) step-in steps h
  line-in (Good (command.RunPlan (Err why))) h = h
  line-in (Good command.Quit) h = h
  line-in (Bad cause) h = h

  -- ---- members

  pub unit-in : (x : Task) → IsSayableUnit t x → IsSayableUnit u x
  unit-in (unit.Edit change) h = edit-in change h
  unit-in x h = tt

  pub performer-in : (p : Performer) → IsSayablePerformer t p → IsSayablePerformer u p
  performer-in p h = record {
    name = name-in p.name h.name;
    jobs = All-weaker (All (IsSayableUnit t)) (All (IsSayableUnit u)) (λ units all. All-weaker (IsSayableUnit t) (IsSayableUnit u) unit-in units all) p.jobs h.jobs;
  }

  pub observer-in : (o : Observer) → IsSayableObserver t o → IsSayableObserver u o
  observer-in o h = record {
    name = name-in o.name h.name;
    units = All-weaker (λ item. IsEditOf t item.1) (λ item. IsEditOf u item.1) (λ item one. edit-in item.1 one) o.units h.units;
  }

  pub member-in : (m : Member) → IsSayableMember t m → IsSayableMember u m
  member-in (member.Performer p) h = performer-in p h
  member-in (member.Observer o) h = observer-in o h

  -- ---- inputs

  action-in : (a : ActionDef) → IsSayableAction (length t) a → IsSayableAction (length u) a
  action-in a h = record { name = name-in a.name h.name; few = h.few }

  pub domain-in : (d : Domain) → IsSayableDomain (length t) d → IsSayableDomain (length u) d
  domain-in d h = record {
    constants = All-weaker (λ (c : Param). IsOf (length t) c.name) (λ (c : Param). IsOf (length u) c.name) (λ c one. name-in c.name one) d.constants h.constants;
    actions = All-weaker (IsSayableAction (length t)) (IsSayableAction (length u)) action-in d.actions h.actions;
  }

pub sayable_inputs_stay_so : SayableInputsStaySo
sayable_inputs_stay_so names table i keeps h = record {
  domain = domain-in names table keeps i.domain h.domain;
  lines = All-weaker (IsSayableLine names) (IsSayableLine table) (line-in names table keeps) i.lines h.lines;
  members = All-weaker (IsSayableMember names) (IsSayableMember table) (member-in names table keeps) i.members h.members;
}
