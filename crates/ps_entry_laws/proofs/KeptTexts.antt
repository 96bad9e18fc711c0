-- What is printed with a table is printed so with each table that keeps its names.
use Rattle.std.proofs.Common.{◌≡◌, ℕ, ◌<◌, true, ◌&&◌, nat_le, List, [], ◌∷◌, ◌++◌, codes, length, map, slice_get, slice_index_or, Some, All, refl, sym, ap, ◌∙◌, arith}
use Rattle.std.proofs.lemmas.Bool.{and_from, and_parts}
use Rattle.std.proofs.lemmas.Bool.Decides.{nat_tests}
use Rattle.std.proofs.lemmas.List.Elements.{All-nil, All-cons, All-head, All-tail, All-append}
use Rattle.std.proofs.lemmas.Option.{slice_get_within, slice_get-get_or}
use Rattle.std.specs.Fmt.{decimal}
use Rattle.std.specs.List.{list_all}
use Rattle.ps_world.specs.CondViews.{cond_tree}
use Rattle.ps_world.specs.DomainTexts.{after_spaces, bound_text, cond_text, conds_text, expr_text, lifted_text, op_text, param_text, rel_text, spaced, term_text}
use Rattle.ps_world.specs.Names.{Table, name_text, object}
use Rattle.ps_world.specs.Numbers.{number_text}
use Rattle.ps_world.specs.Texts.{args_text, edit_refusal_text, edit_text, fact_text}
use Rattle.ps_world.specs.Trees.{ExprTree, number, value_of, negated, operated, CondTree, CondTrees, all_of, any_of, no, implied, holds, same, compares, is_a, for_some, for_all, none, more}
use Rattle.ps_world.specs.declared.domains.Param.{Param}
use Rattle.ps_world.specs.declared.edits.Edit.{Edit as Change}
use Rattle.ps_world.specs.declared.edits.Edit.TheVariants as edit
use Rattle.ps_world.specs.declared.edits.EditRefusal.{EditRefusal}
use Rattle.ps_world.specs.declared.edits.EditRefusal.TheVariants as fault
use Rattle.ps_world.specs.declared.facts.Fact.{Fact}
use Rattle.ps_world.specs.declared.names.Name.{Name}
use Rattle.ps_world.specs.declared.schemas.Lifted.{Lifted}
use Rattle.ps_world.specs.declared.schemas.Term.{Term}
use Rattle.ps_world.specs.declared.schemas.Term.TheVariants.{Var, Const}
use Rattle.ps_world.proofs.Optionals.{some_same}
use Rattle.ps_action.specs.declared.acts.Act.{Act}
use Rattle.ps_action.specs.declared.refusals.GroundRefusal.{GroundRefusal}
use Rattle.ps_action.specs.declared.refusals.GroundRefusal.TheVariants as ground
use Rattle.ps_action.specs.declared.refusals.PlanRefusal.{PlanRefusal}
use Rattle.ps_action.specs.declared.refusals.PlanRefusal.TheVariants as plan
use Rattle.ps_machine.specs.Tables.{is_note}
use Rattle.ps_machine.specs.Texts.{act_text, acts_text, by_text, entry_line, event_text, finish_text, ground_text, kind_text, on_request, pass_text, plan_cause_text, query_text, refusal_text}
use Rattle.ps_machine.specs.declared.inputs.Query.{Query}
use Rattle.ps_machine.specs.declared.inputs.Query.TheVariants as query
use Rattle.ps_machine.specs.declared.journal.By.{By}
use Rattle.ps_machine.specs.declared.journal.By.TheVariants as by
use Rattle.ps_machine.specs.declared.journal.Event.{Event}
use Rattle.ps_machine.specs.declared.journal.Event.TheVariants as event
use Rattle.ps_machine.specs.declared.journal.Entry.{Entry}
use Rattle.ps_machine.specs.declared.journal.Refusal.{Refusal}
use Rattle.ps_machine.specs.declared.journal.Refusal.TheVariants as refusal
use Rattle.ps_text.specs.Names.{Keeps}
use Rattle.ps_print.specs.CanonicalWords.{AreCondsOf, IsCondOf, IsExprOf, IsLiftedOf, IsNameOf, IsParamOf, IsTermOf}
use Rattle.ps_script_laws.specs.Sayable.{IsEditOf, IsFactOf, IsQueryOf}
use Rattle.ps_entries.specs.Forms.{is_act, is_by, is_byte, is_cause, is_edit_cause, is_entry, is_event, is_ground_cause, is_known, is_long, is_on_request, is_plan_cause, is_short, may_run}
use Rattle.ps_entries.proofs.PrintedCauses.{known-of}
use Rattle.ps_entry_laws.specs.Laws.{IsSayable}

known-by : (count : ℕ) (n : Name) → n.0 < count → is_known count n ≡ true
known-by count n h = grind (arith, nat_tests)

module _ (t u : Table) (keeps : Keeps t u) where
  -- ---- names

  here : (n : Name) → n.0 < length t → slice_get u n.0 ≡ Some (name_text t n)
  here n lt = keeps n.0 lt ∙ slice_get-get_or t n.0 [] lt

  within : (n : Name) → n.0 < length t → n.0 < length u
  within n lt = slice_get_within u n.0 (name_text t n) (here n lt)

  name-kept : (n : Name) → n.0 < length t → name_text u n ≡ name_text t n
  name-kept n lt = some_same (name_text u n) (name_text t n) (sym (slice_get-get_or u n.0 [] (within n lt)) ∙ here n lt)

  name-same : (n : Name) → is_known (length t) n ≡ true → name_text u n ≡ name_text t n
  name-same n h = name-kept n (known-of (length t) n h)

  name-in : (n : Name) → is_known (length t) n ≡ true → is_known (length u) n ≡ true
  name-in n h = known-by (length u) n (within n (known-of (length t) n h))

  all-known : (ns : List Name) → list_all (is_known (length t)) ns ≡ true → All (IsNameOf (length t)) ns
  all-known [] h = All-nil (IsNameOf (length t))
  all-known (n ∷ ns) h =
      let parts = and_parts (is_known (length t) n) (list_all (is_known (length t)) ns) h in
      All-cons (IsNameOf (length t)) n ns (known-of (length t) n parts.0) (all-known ns parts.1)

  args-kept : (ns : List Name) → All (IsNameOf (length t)) ns → args_text u ns ≡ args_text t ns
  args-kept [] h = refl
  args-kept (n ∷ ns) h =
      ap (λ x. (codes " " ++ x) ++ args_text u ns) (name-kept n (All-head (IsNameOf (length t)) n ns h))
      ∙ ap (λ x. (codes " " ++ name_text t n) ++ x) (args-kept ns (All-tail (IsNameOf (length t)) n ns h))

  args-in : (ns : List Name) → list_all (is_known (length t)) ns ≡ true → list_all (is_known (length u)) ns ≡ true
  args-in [] h = refl
  args-in (n ∷ ns) h =
      let parts = and_parts (is_known (length t) n) (list_all (is_known (length t)) ns) h in
      and_from (is_known (length u) n) (list_all (is_known (length u)) ns) (name-in n parts.0) (args-in ns parts.1)

  -- ---- goals

  param-kept : (p : Param) → IsParamOf (length t) p → param_text u p ≡ param_text t p
  param-kept p h =
      ap (λ x. codes "?" ++ (x ++ (codes " - " ++ name_text u p.kind))) (name-kept p.name h.0)
      ∙ ap (λ x. codes "?" ++ (name_text t p.name ++ (codes " - " ++ x))) (name-kept p.kind h.1)

  params-kept : (ps : List Param) → All (IsParamOf (length t)) ps → map (param_text u) ps ≡ map (param_text t) ps
  params-kept [] h = refl
  params-kept (p ∷ ps) h =
      ap (λ x. x ∷ map (param_text u) ps) (param-kept p (All-head (IsParamOf (length t)) p ps h))
      ∙ ap (λ x. param_text t p ∷ x) (params-kept ps (All-tail (IsParamOf (length t)) p ps h))

  -- where these variables are in force
  module _ (ps : List Param) (known : All (IsParamOf (length t)) ps) where
    term-kept : (s : Term) → IsTermOf (length t) (length ps) s → term_text u ps s ≡ term_text t ps s
    term-kept (Var i) h =
        let other : Param = record { name = object; kind = object } in
        ap (λ x. codes "?" ++ x) (name-kept (slice_index_or ps i other).name (known i other h).0)
    term-kept (Const n) h = name-kept n h

    terms-kept : (ts : List Term) → All (IsTermOf (length t) (length ps)) ts → map (term_text u ps) ts ≡ map (term_text t ps) ts
    terms-kept [] h = refl
    terms-kept (s ∷ ts) h =
        ap (λ x. x ∷ map (term_text u ps) ts) (term-kept s (All-head (IsTermOf (length t) (length ps)) s ts h))
        ∙ ap (λ x. term_text t ps s ∷ x) (terms-kept ts (All-tail (IsTermOf (length t) (length ps)) s ts h))

    lifted-kept : (l : Lifted) → IsLiftedOf (length t) (length ps) l → lifted_text u ps l ≡ lifted_text t ps l
    lifted-kept l h =
        ap (λ x. codes "(" ++ (x ++ (after_spaces (map (term_text u ps) l.terms) ++ codes ")"))) (name-kept l.head h.0)
        ∙ ap (λ x. codes "(" ++ (name_text t l.head ++ (after_spaces x ++ codes ")"))) (terms-kept l.terms h.1)

    expr-kept : (x : ExprTree) → IsExprOf (length t) (length ps) x → expr_text u ps x ≡ expr_text t ps x
    expr-kept (number n) h = refl
    expr-kept (value_of l) h = lifted-kept l h
    expr-kept (negated x) h = ap (λ y. codes "(- " ++ (y ++ codes ")")) (expr-kept x h)
    expr-kept (operated op x y) h =
        ap (λ z. codes "(" ++ (op_text op ++ (codes " " ++ (z ++ (codes " " ++ (expr_text u ps y ++ codes ")")))))) (expr-kept x h.0)
        ∙ ap (λ z. codes "(" ++ (op_text op ++ (codes " " ++ (expr_text t ps x ++ (codes " " ++ (z ++ codes ")")))))) (expr-kept y h.1)

  -- the variables of a quantifier, and its condition
  bound-kept : (start : List ℕ) (qs : List Param) (x y : List ℕ) → All (IsParamOf (length t)) qs → x ≡ y → start ++ (bound_text u qs ++ (codes " " ++ (x ++ codes ")"))) ≡ start ++ (bound_text t qs ++ (codes " " ++ (y ++ codes ")")))
  bound-kept start qs x y h e =
      ap (λ w. start ++ ((codes "(" ++ (spaced w ++ codes ")")) ++ (codes " " ++ (x ++ codes ")")))) (params-kept qs h)
      ∙ ap (λ w. start ++ (bound_text t qs ++ (codes " " ++ (w ++ codes ")")))) e

  mutual
    cond-kept : (ps : List Param) → All (IsParamOf (length t)) ps → (c : CondTree) → IsCondOf (length t) ps c → cond_text u ps c ≡ cond_text t ps c
    cond-kept ps known (all_of cs) h = ap (λ x. codes "(and" ++ (x ++ codes ")")) (conds-kept ps known cs h)
    cond-kept ps known (any_of cs) h = ap (λ x. codes "(or" ++ (x ++ codes ")")) (conds-kept ps known cs h.1)
    cond-kept ps known (no c) h = ap (λ x. codes "(not " ++ (x ++ codes ")")) (cond-kept ps known c h)
    cond-kept ps known (implied a b) h =
        ap (λ x. codes "(imply " ++ (x ++ (codes " " ++ (cond_text u ps b ++ codes ")")))) (cond-kept ps known a h.1.0)
        ∙ ap (λ x. codes "(imply " ++ (cond_text t ps a ++ (codes " " ++ (x ++ codes ")")))) (cond-kept ps known b h.1.1)
    cond-kept ps known (holds l) h = lifted-kept ps known l h
    cond-kept ps known (same s r) h =
        ap (λ x. codes "(= " ++ (x ++ (codes " " ++ (term_text u ps r ++ codes ")")))) (term-kept ps known s h.0)
        ∙ ap (λ x. codes "(= " ++ (term_text t ps s ++ (codes " " ++ (x ++ codes ")")))) (term-kept ps known r h.1)
    cond-kept ps known (compares rel x y) h =
        ap (λ z. codes "(" ++ (rel_text rel ++ (codes " " ++ (z ++ (codes " " ++ (expr_text u ps y ++ codes ")")))))) (expr-kept ps known x h.0)
        ∙ ap (λ z. codes "(" ++ (rel_text rel ++ (codes " " ++ (expr_text t ps x ++ (codes " " ++ (z ++ codes ")")))))) (expr-kept ps known y h.1)
    cond-kept ps known (is_a s kind) h = absurd h
    cond-kept ps known (for_some qs c) h =
        bound-kept (codes "(exists ") qs (cond_text u (ps ++ qs) c) (cond_text t (ps ++ qs) c) h.0 (cond-kept (ps ++ qs) (All-append (IsParamOf (length t)) ps qs known h.0) c h.1)
    cond-kept ps known (for_all qs c) h =
        bound-kept (codes "(forall ") qs (cond_text u (ps ++ qs) c) (cond_text t (ps ++ qs) c) h.0 (cond-kept (ps ++ qs) (All-append (IsParamOf (length t)) ps qs known h.0) c h.1)

    conds-kept : (ps : List Param) → All (IsParamOf (length t)) ps → (cs : CondTrees) → AreCondsOf (length t) ps cs → conds_text u ps cs ≡ conds_text t ps cs
    conds-kept ps known none h = refl
    conds-kept ps known (more c cs) h =
        ap (λ x. codes " " ++ (x ++ conds_text u ps cs)) (cond-kept ps known c h.0)
        ∙ ap (λ x. codes " " ++ (cond_text t ps c ++ x)) (conds-kept ps known cs h.1)

  -- ---- edits and queries

  fact-kept : (f : Fact) → IsFactOf (length t) f → fact_text u f ≡ fact_text t f
  fact-kept f h =
      ap (λ x. codes "(" ++ (x ++ (args_text u f.args ++ codes ")"))) (name-kept f.head h.head)
      ∙ ap (λ x. codes "(" ++ (name_text t f.head ++ (x ++ codes ")"))) (args-kept f.args h.args)

  pub edit-kept : (change : Change) → IsEditOf t change → edit_text u change ≡ edit_text t change
  edit-kept (edit.AddInstance n kind) h =
      ap (λ x. codes "set instance " ++ (x ++ (codes " " ++ name_text u kind))) (name-kept n h.0)
      ∙ ap (λ x. codes "set instance " ++ (name_text t n ++ (codes " " ++ x))) (name-kept kind h.1)
  edit-kept (edit.RemoveInstance n) h = ap (λ x. codes "remove instance " ++ x) (name-kept n h)
  edit-kept (edit.AddFact f) h = ap (λ x. codes "set predicate " ++ x) (fact-kept f h)
  edit-kept (edit.RemoveFact f) h = ap (λ x. codes "remove predicate " ++ x) (fact-kept f h)
  edit-kept (edit.SetValue f n) h = ap (λ x. codes "set function " ++ (codes "(= " ++ (x ++ (codes " " ++ (number_text n ++ codes ")"))))) (fact-kept f h.0)
  edit-kept (edit.RemoveValue f) h = ap (λ x. codes "remove function " ++ x) (fact-kept f h)
  edit-kept (edit.SetGoal goal) h = ap (λ x. codes "set goal " ++ x) (cond-kept [] (All-nil (IsParamOf (length t))) (cond_tree goal) h.known)
  edit-kept edit.RemoveGoal h = refl

  pub query-kept : (q : Query) → IsQueryOf t q → query_text u q ≡ query_text t q
  query-kept (query.ModelPredicate n) h = ap (λ x. codes "get model predicate " ++ x) (name-kept n h)
  query-kept (query.ModelAction n) h = ap (λ x. codes "get model action " ++ x) (name-kept n h)
  query-kept q h = refl

  -- ---- causes

  fault-kept : (r : EditRefusal) → is_edit_cause (length t) r ≡ true → edit_refusal_text u r ≡ edit_refusal_text t r
  fault-kept (fault.NoInstance n) h = ap (λ x. codes "NoInstance " ++ x) (name-same n h)
  fault-kept r h = refl

  fault-in : (r : EditRefusal) → is_edit_cause (length t) r ≡ true → is_edit_cause (length u) r ≡ true
  fault-in (fault.NoInstance n) h = name-in n h
  fault-in r h = h

  ground-kept : (r : GroundRefusal) → is_ground_cause (length t) r ≡ true → ground_text u r ≡ ground_text t r
  ground-kept (ground.NoInstance n) h = ap (λ x. codes "NoInstance " ++ x) (name-same n h)
  ground-kept r h = refl

  ground-in : (r : GroundRefusal) → is_ground_cause (length t) r ≡ true → is_ground_cause (length u) r ≡ true
  ground-in (ground.NoInstance n) h = name-in n h
  ground-in r h = h

  plan-kept : (r : PlanRefusal) → is_plan_cause (length t) r ≡ true → plan_cause_text u r ≡ plan_cause_text t r
  plan-kept (plan.Ground at r) h = ap (λ x. decimal at ++ (codes " " ++ x)) (ground-kept r (and_parts (is_short at) (is_ground_cause (length t) r) h).1)
  plan-kept r h = refl

  plan-in : (r : PlanRefusal) → is_plan_cause (length t) r ≡ true → is_plan_cause (length u) r ≡ true
  plan-in (plan.Ground at r) h =
      let parts = and_parts (is_short at) (is_ground_cause (length t) r) h in
      and_from (is_short at) (is_ground_cause (length u) r) parts.0 (ground-in r parts.1)
  plan-in r h = h

  cause-kept : (r : Refusal) → is_cause (length t) r ≡ true → refusal_text u r ≡ refusal_text t r
  cause-kept (refusal.Edit r) h = fault-kept r h
  cause-kept (refusal.Ground ground.NoAction) h = refl
  cause-kept (refusal.Ground (ground.Arity want got)) h = refl
  cause-kept (refusal.Ground (ground.NoInstance n)) h = absurd (cc)
  cause-kept (refusal.Ground (ground.WrongType at)) h = refl
  cause-kept (refusal.Plan r) h = ap (λ x. codes "Plan " ++ x) (plan-kept r h)
  cause-kept r h = refl

  cause-in : (r : Refusal) → is_cause (length t) r ≡ true → is_cause (length u) r ≡ true
  cause-in (refusal.Edit r) h = fault-in r h
  cause-in (refusal.Plan r) h = plan-in r h
  cause-in r h = h

  -- ---- events

  by-kept : (who : By) → is_by (length t) who ≡ true → by_text u who ≡ by_text t who
  by-kept (by.Terminal n) h = refl
  by-kept (by.Performer r p) h = ap (λ x. codes "performer " ++ (decimal r ++ (codes " " ++ x))) (name-same p (and_parts (is_long r) (is_known (length t) p) h).1)
  by-kept (by.Observer o) h = ap (λ x. codes "observer " ++ x) (name-same o h)

  by-in : (who : By) → is_by (length t) who ≡ true → is_by (length u) who ≡ true
  by-in (by.Terminal n) h = h
  by-in (by.Performer r p) h =
      let parts = and_parts (is_long r) (is_known (length t) p) h in
      and_from (is_long r) (is_known (length u) p) parts.0 (name-in p parts.1)
  by-in (by.Observer o) h = name-in o h

  act-kept : (act : Act) → is_act (length t) act ≡ true → act_text u act ≡ act_text t act
  act-kept act h =
      let parts = and_parts (is_known (length t) act.action && list_all (is_known (length t)) act.args) (nat_le (length act.args) 6) h in
      let both = and_parts (is_known (length t) act.action) (list_all (is_known (length t)) act.args) parts.0 in
      ap (λ x. codes " (" ++ (x ++ (args_text u act.args ++ codes ")"))) (name-same act.action both.0)
      ∙ ap (λ x. codes " (" ++ (name_text t act.action ++ (x ++ codes ")"))) (args-kept act.args (all-known act.args both.1))

  act-in : (act : Act) → is_act (length t) act ≡ true → is_act (length u) act ≡ true
  act-in act h =
      let parts = and_parts (is_known (length t) act.action && list_all (is_known (length t)) act.args) (nat_le (length act.args) 6) h in
      let both = and_parts (is_known (length t) act.action) (list_all (is_known (length t)) act.args) parts.0 in
      and_from (is_known (length u) act.action && list_all (is_known (length u)) act.args) (nat_le (length act.args) 6)
      (and_from (is_known (length u) act.action) (list_all (is_known (length u)) act.args) (name-in act.action both.0) (args-in act.args both.1)) parts.1

  acts-kept : (acts : List Act) → list_all (is_act (length t)) acts ≡ true → acts_text u acts ≡ acts_text t acts
  acts-kept [] h = refl
  acts-kept (act ∷ acts) h =
      let parts = and_parts (is_act (length t) act) (list_all (is_act (length t)) acts) h in
      ap (λ x. x ++ acts_text u acts) (act-kept act parts.0) ∙ ap (λ x. act_text t act ++ x) (acts-kept acts parts.1)

  acts-in : (acts : List Act) → list_all (is_act (length t)) acts ≡ true → list_all (is_act (length u)) acts ≡ true
  acts-in [] h = refl
  acts-in (act ∷ acts) h =
      let parts = and_parts (is_act (length t) act) (list_all (is_act (length t)) acts) h in
      and_from (is_act (length u) act) (list_all (is_act (length u)) acts) (act-in act parts.0) (acts-in acts parts.1)

  call-kept : (word : List ℕ) (r : ℕ) (p : Name) → is_on_request (length t) r p ≡ true → on_request u word r p ≡ on_request t word r p
  call-kept word r p h = ap (λ x. word ++ (decimal r ++ (codes " " ++ x))) (name-same p (and_parts (is_long r) (is_known (length t) p) h).1)

  call-in : (r : ℕ) (p : Name) → is_on_request (length t) r p ≡ true → is_on_request (length u) r p ≡ true
  call-in r p h =
      let parts = and_parts (is_long r) (is_known (length t) p) h in
      and_from (is_long r) (is_known (length u) p) parts.0 (name-in p parts.1)

  event-kept : (e : Event) → is_event (length t) e ≡ true → IsSayable t e → event_text u e ≡ event_text t e
  event-kept (event.Edit who change) h s =
      ap (λ x. codes "edit " ++ (x ++ (codes " " ++ edit_text u change))) (by-kept who h)
      ∙ ap (λ x. codes "edit " ++ (by_text t who ++ (codes " " ++ x))) (edit-kept change s)
  event-kept (event.Refused who why) h s =
      let parts = and_parts (is_by (length t) who) (is_cause (length t) why) h in
      ap (λ x. codes "refused " ++ (x ++ (codes " " ++ refusal_text u why))) (by-kept who parts.0)
      ∙ ap (λ x. codes "refused " ++ (by_text t who ++ (codes " " ++ x))) (cause-kept why parts.1)
  event-kept (event.Ask q) h s = ap (λ x. codes "ask " ++ x) (query-kept q s)
  event-kept (event.Run for acts) h s =
      ap (λ x. codes "run " ++ (kind_text for ++ x)) (acts-kept acts (and_parts (may_run for acts) (list_all (is_act (length t)) acts) h).1)
  event-kept (event.Offer r p) h s = call-kept (codes "offer ") r p h
  event-kept (event.Pass r p why) h s = ap (λ x. x ++ (codes " " ++ pass_text why)) (call-kept (codes "pass ") r p h)
  event-kept (event.Confirm r p) h s = call-kept (codes "confirm ") r p h
  event-kept (event.Reject r p) h s = call-kept (codes "reject ") r p h
  event-kept (event.Begin r p) h s = call-kept (codes "begin ") r p h
  event-kept (event.UnitWork r p) h s = call-kept (codes "unitwork ") r p h
  event-kept (event.Feedback r p percent note) h s =
      ap (λ x. x ++ (codes " " ++ (decimal percent ++ (codes " " ++ note)))) (call-kept (codes "feedback ") r p (and_parts (is_on_request (length t) r p) (nat_le percent 100 && is_note note) h).0)
  event-kept (event.Finish r p ok) h s = ap (λ x. x ++ finish_text ok) (call-kept (codes "finish ") r p h)
  event-kept (event.Stopped r p) h s = call-kept (codes "stopped ") r p h
  event-kept (event.Replan acts) h s = ap (λ x. codes "replan" ++ x) (acts-kept acts h)
  event-kept e h s = refl

  event-in : (e : Event) → is_event (length t) e ≡ true → is_event (length u) e ≡ true
  event-in (event.Edit who change) h = by-in who h
  event-in (event.Refused who why) h =
      let parts = and_parts (is_by (length t) who) (is_cause (length t) why) h in
      and_from (is_by (length u) who) (is_cause (length u) why) (by-in who parts.0) (cause-in why parts.1)
  event-in (event.Run for acts) h =
      let parts = and_parts (may_run for acts) (list_all (is_act (length t)) acts) h in
      and_from (may_run for acts) (list_all (is_act (length u)) acts) parts.0 (acts-in acts parts.1)
  event-in (event.Offer r p) h = call-in r p h
  event-in (event.Pass r p why) h = call-in r p h
  event-in (event.Confirm r p) h = call-in r p h
  event-in (event.Reject r p) h = call-in r p h
  event-in (event.Begin r p) h = call-in r p h
  event-in (event.UnitWork r p) h = call-in r p h
  event-in (event.Feedback r p percent note) h =
      let parts = and_parts (is_on_request (length t) r p) (nat_le percent 100 && is_note note) h in
      and_from (is_on_request (length u) r p) (nat_le percent 100 && is_note note) (call-in r p parts.0) parts.1
  event-in (event.Finish r p ok) h = call-in r p h
  event-in (event.Stopped r p) h = call-in r p h
  event-in (event.Replan acts) h = acts-in acts h
  event-in e h = h

  -- an entry's line
  pub entry-kept : (e : Entry) → is_entry (length t) e ≡ true → IsSayable t e.what → entry_line u e ≡ entry_line t e
  entry-kept e h s = ap (λ x. decimal e.hand ++ (codes " " ++ x)) (event-kept e.what (and_parts (is_byte e.hand) (is_event (length t) e.what) h).1 s)

  -- an entry in form
  pub entry-in : (e : Entry) → is_entry (length t) e ≡ true → is_entry (length u) e ≡ true
  entry-in e h =
      let parts = and_parts (is_byte e.hand) (is_event (length t) e.what) h in
      and_from (is_byte e.hand) (is_event (length u) e.what) parts.0 (event-in e.what parts.1)
