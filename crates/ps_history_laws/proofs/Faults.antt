-- Of all names, the refusal of an edit has such alone as the edit has; and instances keep their names in the table.
use Rattle.std.proofs.Common.{ℕ, ◌+◌, ◌==◌, not, if◌then◌else◌, true, false, Option, Some, None, is_none, is_some, Result, Ok, Err, List, [], ◌∷◌, ◌++◌, All, IfSome, slice_index_or, MatchResult, filter, fold, length, nat_le}
use Rattle.std.specs.List.{list_all}
use Rattle.std.specs.BTreeMap.{insert_entry}
use Rattle.std.specs.BTreeSet.{insert_key}
use Rattle.std.specs.Map.{keys_of}
use Rattle.std.proofs.lemmas.List.Elements.{All-nil, All-head, All-tail}
use Rattle.std.proofs.lemmas.Map.Views.{All-keys-insert_entry}
use Rattle.ps_world.specs.declared.schemas.Lifted.{Lifted}
use Rattle.ps_world.specs.Names.{Table, same_name, name_cmp, object}
use Rattle.ps_world.specs.Facts.{fact_cmp}
use Rattle.ps_world.specs.Trees.{ExprTree, number, value_of, negated, operated, CondTree, CondTrees, all_of, any_of, no, implied, holds, same, compares, is_a, for_some, for_all, none, more}
use Rattle.ps_world.specs.CondViews.{cond_tree}
use Rattle.ps_world.specs.Knowledge.{is_type, is_below, predicate_of, function_of, constant_of, kind_of, or_else, misfit, misfit_of_term, first_fault, unsuited_by, fault_of_fact, fault_of_value, fault_of_atom, fault_of_call, fault_of_expr, fault_of_side, fault_of_bound, kinds_of, fault_of_cond, fault_of_conds, without, most_instances, with_instance, without_instance, unless, same_fact, is_known, value_in, without_fact, without_value, without_goal, edited, with_constant, opening}
use Rattle.ps_world.specs.Tables.{IsOf, IsEditRefusalOf}
use Rattle.ps_world.specs.declared.names.Name.{Name}
use Rattle.ps_world.specs.declared.facts.Fact.{Fact}
use Rattle.ps_world.specs.declared.schemas.Term.{Term}
use Rattle.ps_world.specs.declared.schemas.Term.TheVariants.{Var, Const}
use Rattle.ps_world.specs.declared.conditions.Cond.{Cond}
use Rattle.ps_world.specs.declared.domains.Param.{Param}
use Rattle.ps_world.specs.declared.domains.Decl.{Decl}
use Rattle.ps_world.specs.declared.domains.Domain.{Domain}
use Rattle.ps_world.specs.declared.known.Knowledge.{Knowledge}
use Rattle.ps_world.specs.declared.edits.Edit.{Edit}
use Rattle.ps_world.specs.declared.edits.Edit.TheVariants.{AddInstance, RemoveInstance, AddFact, RemoveFact, SetValue, RemoveValue, SetGoal, RemoveGoal}
use Rattle.ps_world.specs.declared.edits.EditRefusal.{EditRefusal}
use Rattle.ps_world.specs.declared.edits.EditRefusal.TheVariants.{NoType, InstanceThere, Full, NoInstance, Constant, NoPredicate, NoFunction, Arity, WrongType, NoFact, NoValue}
use Rattle.ps_print.specs.CanonicalWords.{AreCondsOf, IsCondOf, IsExprOf, IsTermOf}
use Rattle.ps_script_laws.specs.Sayable.{IsEditOf}
use Rattle.ps_history_laws.proofs.Found.{left-have}

-- the names of instances are of a table
abbrev pub AreInstancesOf : ℕ → List (Name × Name) → Type 0
AreInstancesOf count instances = All (IsOf count) (keys_of instances)

-- ---- refusals

module _ (count : ℕ) (d : Domain) (k : Knowledge) where
  -- a refusal's names are of the table, if there is one
  abbrev IsNamed : Option EditRefusal → Type 0
  IsNamed fault = IfSome fault (IsEditRefusalOf count)

  misfit-named : (kind : Option Name) (want n : Name) (at : ℕ) → IsOf count n → IsNamed (misfit d kind want n at)
  misfit-named None want n at h = h
  misfit-named (Some kind) want n at h = elim (is_below d kind want) as (λ b. IsNamed (if b then None else Some (WrongType at))) [ true ↦ tt | false ↦ tt ]

  or_else-named : (a b : Option EditRefusal) → IsNamed a → IsNamed b → IsNamed (or_else a b)
  or_else-named None b p q = q
  or_else-named (Some r) b p q = p

  -- of what stands at the places of parameters, where the fault of each has such names
  first_fault-named : {A : Type 0} (P : A → Type 0) (fault : A → Name → ℕ → Option EditRefusal) → ((x : A) (want : Name) (at : ℕ) → P x → IsNamed (fault x want at)) → (ps : List Param) (xs : List A) (at : ℕ) → All P xs → IsNamed (first_fault fault ps xs at)
  first_fault-named P fault each [] xs at h = tt
  first_fault-named P fault each (p ∷ ps) [] at h = tt
  first_fault-named P fault each (p ∷ ps) (x ∷ xs) at h =
      or_else-named (fault x p.kind at) (first_fault fault ps xs (at + 1))
      (each x p.kind at (All-head P x xs h)) (first_fault-named P fault each ps xs (at + 1) (All-tail P x xs h))

  unsuited-named : {A : Type 0} (P : A → Type 0) (fault : A → Name → ℕ → Option EditRefusal) → ((x : A) (want : Name) (at : ℕ) → P x → IsNamed (fault x want at)) → (missing : EditRefusal) (decl : Option Decl) (xs : List A) → IsEditRefusalOf count missing → All P xs → IsNamed (unsuited_by fault missing decl xs)
  unsuited-named P fault each missing None xs m h = m
  unsuited-named P fault each missing (Some decl) xs m h =
      elim (length decl.params == length xs) as (λ b. IsNamed (if b then first_fault fault decl.params xs 0 else Some (Arity (length decl.params) (length xs)))) [
        | true ↦ first_fault-named P fault each decl.params xs 0 h
        | false ↦ tt
      ]

  fact-named : (f : Fact) → All (IsOf count) f.args → IsNamed (fault_of_fact d k f)
  fact-named f h = unsuited-named (IsOf count) (λ n want at. misfit d (kind_of k n) want n at) (λ n want at p. misfit-named (kind_of k n) want n at p) NoPredicate (predicate_of d f.head) f.args tt h

  value-named : (f : Fact) → All (IsOf count) f.args → IsNamed (fault_of_value d k f)
  value-named f h = unsuited-named (IsOf count) (λ n want at. misfit d (kind_of k n) want n at) (λ n want at p. misfit-named (kind_of k n) want n at p) NoFunction (function_of d f.head) f.args tt h

  -- ---- goals, where these are the types of the variables in force

  there-named : (kind want n : Name) (at : ℕ) → IsNamed (misfit d (Some kind) want n at)
  there-named kind want n at = elim (is_below d kind want) as (λ b. IsNamed (if b then None else Some (WrongType at))) [ true ↦ tt | false ↦ tt ]

  side-named : (vars : ℕ) (t : Term) → IsTermOf count vars t → IsNamed (fault_of_side k t)
  side-named vars (Var i) h = tt
  side-named vars (Const n) h = elim (is_none (kind_of k n)) as (λ b. IsNamed (if b then Some (NoInstance n) else None)) [ true ↦ h | false ↦ tt ]

  bound-named : (qs : List Param) → IsNamed (fault_of_bound d qs)
  bound-named qs = elim (list_all (λ p. is_type d p.kind) qs) as (λ b. IsNamed (if b then None else Some NoType)) [ true ↦ tt | false ↦ tt ]

  module _ (kinds : List Name) (vars : ℕ) where
    term-named : (t : Term) (want : Name) (at : ℕ) → IsTermOf count vars t → IsNamed (misfit_of_term d k kinds t want at)
    term-named (Var i) want at h = there-named (slice_index_or kinds i object) want object at
    term-named (Const n) want at h = misfit-named (kind_of k n) want n at h

    atom-named : (l : Lifted) → All (IsTermOf count vars) l.terms → IsNamed (fault_of_atom d k kinds l)
    atom-named l h = unsuited-named (IsTermOf count vars) (misfit_of_term d k kinds) term-named NoPredicate (predicate_of d l.head) l.terms tt h

    call-named : (l : Lifted) → All (IsTermOf count vars) l.terms → IsNamed (fault_of_call d k kinds l)
    call-named l h = unsuited-named (IsTermOf count vars) (misfit_of_term d k kinds) term-named NoFunction (function_of d l.head) l.terms tt h

    expr-named : (x : ExprTree) → IsExprOf count vars x → IsNamed (fault_of_expr d k kinds x)
    expr-named (number n) h = tt
    expr-named (value_of l) h = call-named l h.1
    expr-named (negated x) h = expr-named x h
    expr-named (operated op x y) h = or_else-named (fault_of_expr d k kinds x) (fault_of_expr d k kinds y) (expr-named x h.0) (expr-named y h.1)

  mutual
    cond-named : (kinds : List Name) (ps : List Param) (c : CondTree) → IsCondOf count ps c → IsNamed (fault_of_cond d k kinds c)
    cond-named kinds ps (all_of cs) h = conds-named kinds ps cs h
    cond-named kinds ps (any_of cs) h = conds-named kinds ps cs h.1
    cond-named kinds ps (no c) h = cond-named kinds ps c h
    cond-named kinds ps (implied a b) h = or_else-named (fault_of_cond d k kinds a) (fault_of_cond d k kinds b) (cond-named kinds ps a h.1.0) (cond-named kinds ps b h.1.1)
    cond-named kinds ps (holds l) h = atom-named kinds (length ps) l h.1
    cond-named kinds ps (same s t) h = or_else-named (fault_of_side k s) (fault_of_side k t) (side-named (length ps) s h.0) (side-named (length ps) t h.1)
    cond-named kinds ps (compares rel x y) h = or_else-named (fault_of_expr d k kinds x) (fault_of_expr d k kinds y) (expr-named kinds (length ps) x h.0) (expr-named kinds (length ps) y h.1)
    cond-named kinds ps (is_a t kind) h = absurd h
    cond-named kinds ps (for_some qs c) h =
        or_else-named (fault_of_bound d qs) (fault_of_cond d k (kinds ++ kinds_of qs) c) (bound-named qs) (cond-named (kinds ++ kinds_of qs) (ps ++ qs) c h.1)
    cond-named kinds ps (for_all qs c) h =
        or_else-named (fault_of_bound d qs) (fault_of_cond d k (kinds ++ kinds_of qs) c) (bound-named qs) (cond-named (kinds ++ kinds_of qs) (ps ++ qs) c h.1)

    conds-named : (kinds : List Name) (ps : List Param) (cs : CondTrees) → AreCondsOf count ps cs → IsNamed (fault_of_conds d k kinds cs)
    conds-named kinds ps none h = tt
    conds-named kinds ps (more c cs) h = or_else-named (fault_of_cond d k kinds c) (fault_of_conds d k kinds cs) (cond-named kinds ps c h.0) (conds-named kinds ps cs h.1)

  -- ---- what an edit gives

  -- knowledge whose instances are of the table, or a refusal whose names are
  abbrev pub Gives : Result Knowledge EditRefusal → Type 0
  Gives outcome = MatchResult outcome (λ new. AreInstancesOf count new.instances) (IsEditRefusalOf count)

  unless-gives : (fault : Option EditRefusal) (new : Result Knowledge EditRefusal) → IsNamed fault → Gives new → Gives (unless fault new)
  unless-gives None new p q = q
  unless-gives (Some r) new p q = p

  with_instance-gives : (n t : Name) (kind : Option Name) → IsOf count n → AreInstancesOf count k.instances → Gives (with_instance k n t kind)
  with_instance-gives n t None p h =
      elim (nat_le most_instances (length k.instances)) as (λ b. Gives (if b then Err Full else Ok (record k { instances = insert_entry name_cmp k.instances n t }))) [
        | true ↦ tt
        | false ↦ All-keys-insert_entry name_cmp n t (IsOf count) k.instances h p
      ]
  with_instance-gives n t (Some kind) p h = elim (same_name kind t) as (λ b. Gives (if b then Ok k else Err InstanceThere)) [ true ↦ h | false ↦ tt ]

  without_instance-gives : (n : Name) (kind : Option Name) → IsOf count n → AreInstancesOf count k.instances → Gives (without_instance d k n kind)
  without_instance-gives n None p h = p
  without_instance-gives n (Some kind) p h =
      elim (is_none (constant_of d n)) as (λ b. Gives (if b then Ok (without n k) else Err Constant)) [
        | true ↦ left-have (IsOf count) (λ i. i.0) (λ i. not (same_name n i.0)) k.instances h
        | false ↦ tt
      ]

  without_fact-gives : (f : Fact) → AreInstancesOf count k.instances → Gives (without_fact k f)
  without_fact-gives f h =
      elim (is_known k f) as (λ b. Gives (if b then Ok (record k { facts = filter (λ g. not (same_fact f g)) k.facts }) else Err NoFact)) [ true ↦ h | false ↦ tt ]

  without_value-gives : (f : Fact) → AreInstancesOf count k.instances → Gives (without_value k f)
  without_value-gives f h =
      elim (is_some (value_in k f)) as (λ b. Gives (if b then Ok (record k { values = filter (λ v. not (same_fact f v.0)) k.values }) else Err NoValue)) [ true ↦ h | false ↦ tt ]

  without_goal-gives : (goal : Option Cond) → AreInstancesOf count k.instances → Gives (without_goal k goal)
  without_goal-gives None h = tt
  without_goal-gives (Some goal) h = h

-- an edit that can be said keeps the names of the instances in the table, and its refusal has such names
pub edited-gives : (names : Table) (d : Domain) (k : Knowledge) (e : Edit) → IsEditOf names e → AreInstancesOf (length names) k.instances → Gives (length names) d k (edited d k e)
edited-gives names d k (AddInstance n t) p h =
    elim (is_type d t) as (λ b. Gives (length names) d k (if b then with_instance k n t (kind_of k n) else Err NoType)) [ true ↦ with_instance-gives (length names) d k n t (kind_of k n) p.0 h | false ↦ tt ]
edited-gives names d k (RemoveInstance n) p h = without_instance-gives (length names) d k n (kind_of k n) p h
edited-gives names d k (AddFact f) p h =
    unless-gives (length names) d k (fault_of_fact d k f) (Ok (record k { facts = insert_key fact_cmp k.facts f })) (fact-named (length names) d k f p.args) h
edited-gives names d k (RemoveFact f) p h =
    unless-gives (length names) d k (fault_of_fact d k f) (without_fact k f) (fact-named (length names) d k f p.args) (without_fact-gives (length names) d k f h)
edited-gives names d k (SetValue f x) p h =
    unless-gives (length names) d k (fault_of_value d k f) (Ok (record k { values = insert_entry fact_cmp k.values f x })) (value-named (length names) d k f p.0.args) h
edited-gives names d k (RemoveValue f) p h =
    unless-gives (length names) d k (fault_of_value d k f) (without_value k f) (value-named (length names) d k f p.args) (without_value-gives (length names) d k f h)
edited-gives names d k (SetGoal goal) p h =
    unless-gives (length names) d k (fault_of_cond d k [] (cond_tree goal)) (Ok (record k { goal = Some goal })) (cond-named (length names) d k [] [] (cond_tree goal) p.known) h
edited-gives names d k RemoveGoal p h = without_goal-gives (length names) d k k.goal h

-- ---- what a session opens with

opened-of : (count : ℕ) (instances : List (Name × Name)) (cs : List Param) → AreInstancesOf count instances → All (λ c. IsOf count c.name) cs → AreInstancesOf count (fold with_constant instances cs)
opened-of count instances [] h p = h
opened-of count instances (c ∷ cs) h p =
    opened-of count (with_constant instances c) cs
    (All-keys-insert_entry name_cmp c.name c.kind (IsOf count) instances h (All-head (λ c. IsOf count c.name) c cs p))
    (All-tail (λ c. IsOf count c.name) c cs p)

-- at first the instances are the constants
pub opening-of : (count : ℕ) (d : Domain) → All (λ c. IsOf count c.name) d.constants → AreInstancesOf count (opening d).instances
opening-of count d h = opened-of count [] d.constants (All-nil (IsOf count)) h
