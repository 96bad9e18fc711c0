-- The lists of facts, values and goals are taken where a line wants them.
use Rattle.std.proofs.Common.{◌≡◌, ℕ, zero, suc, ◌+◌, ◌≤◌, Bool, true, false, List, [], ◌∷◌, ◌++◌, length, Some, refl, ap, ◌∙◌, arith}
use Rattle.std.specs.Option.{option_and_then}
use Rattle.ps_world.specs.Names.{Table, name_text}
use Rattle.ps_world.specs.Trees.{ExprTree, CondTree, CondTrees}
use Rattle.ps_world.specs.declared.domains.Param.{Param}
use Rattle.ps_world.specs.declared.schemas.Term.{Term}
use Rattle.ps_world.specs.declared.schemas.Term.TheVariants.{Var, Const}
use Rattle.ps_world.specs.declared.schemas.Lifted.{Lifted}
use Rattle.ps_world.specs.declared.expressions.Op.{Op}
use Rattle.ps_world.specs.declared.expressions.Op.TheVariants as op
use Rattle.ps_world.specs.declared.conditions.Rel.{Rel}
use Rattle.ps_world.specs.declared.conditions.Rel.TheVariants as rel
use Rattle.ps_rules.specs.Sound.{cond_opens, conds_open, expr_opens}
use Rattle.ps_text.specs.Names.{folded}
use Rattle.ps_grammar.specs.Marks.{is_goal_name, is_name, is_term}
use Rattle.ps_grammar.specs.Rules.{where_it_is}
use Rattle.ps_grammar.specs.Symbols.{level}
use Rattle.ps_grammar.specs.declared.marks.Mark.{Mark}
use Rattle.ps_grammar.specs.declared.marks.Mark.TheVariants as mark
use Rattle.ps_grammar.specs.declared.symbols.Symbol.{Symbol}
use Rattle.ps_grammar.specs.declared.symbols.Symbol.TheVariants.{The, InGoal}
use Rattle.ps_grammar.specs.declared.symbols.GoalPart.TheVariants as goal
use Rattle.ps_lists.specs.Lexemes.{fixed_names}
use Rattle.ps_lists.specs.Nested.{Nested, Nesteds, word, group, none, more}
use Rattle.ps_lists.specs.TypedLists.{IsTypedList, is_variable}
use Rattle.ps_lists.specs.TypedLists.IsTypedList.{no_name, first_name}
use Rattle.ps_lists.specs.TypedLists.IsRun.{type_name}
use Rattle.ps_lists.specs.declared.lexemes.Lexeme.{Lexeme}
use Rattle.ps_lists.proofs.OneWord as one
use Rattle.ps_lists.proofs.OneWord.{Fits, no_word}
use Rattle.ps_lists.proofs.Taking.{Follows, Takes, TakesAll}
use Rattle.ps_lists.proofs.VariableLists.{bound_taken}
use Rattle.ps_pddl.proofs.CanonicalForms.{IsTermWord, AreTermForms, IsLiftedForm, op_mark, IsExprForm, rel_mark, IsCondForm, AreCondForms, AreParamForms}
use Rattle.ps_pddl.proofs.CanonicalForms.AreParamForms.{no_params, more_params}
use Rattle.ps_pddl.proofs.CanonicalForms.AreTermForms.{no_terms, more_terms}
use Rattle.ps_pddl.proofs.CanonicalForms.IsLiftedForm.{lifted}
use Rattle.ps_pddl.proofs.CanonicalForms.IsExprForm.{a_number, a_value, a_negation, an_operation}
use Rattle.ps_pddl.proofs.CanonicalForms.IsCondForm.{all_form, any_form, not_form, imply_form, fact_form, same_form, comparison_form, some_form, each_form}
use Rattle.ps_pddl.proofs.CanonicalForms.AreCondForms.{no_forms, more_forms}
use Rattle.ps_pddl.proofs.MeanTerms.{named-is_name}
use Rattle.ps_pddl.proofs.NameMarks.{mark_in-all}
use Rattle.ps_script_laws.specs.Sayable.{IsShort, IsShortExpr, HasGoalHeads, HaveGoalHeads}

-- ---- single words

module _ (st : List Symbol) (After : List Symbol → Type 0) where
  passes : (b : Bool) (new : List Symbol) → b ≡ true → After (new ++ st) → Follows After (option_and_then (λ n. Some (n ++ st)) (where_it_is b new))
  passes true new e h = h
  passes false new e h = absurd (cc)

  -- a term fits where some more may stand
  more_term_fits : (k : ℕ) (m : Mark) → is_term m ≡ true → After (InGoal (goal.Names k) ∷ st) → Fits st After (InGoal (goal.Names (suc k))) m
  more_term_fits k mark.Close e h = absurd (cc)
  more_term_fits k m e h = passes (is_term m) (InGoal (goal.Names k) ∷ []) e h

  term_fits : (m : Mark) → is_term m ≡ true → After st → Fits st After (InGoal goal.Term) m
  term_fits mark.Open e h = absurd (cc)
  term_fits mark.Close e h = absurd (cc)
  term_fits m e h = passes (is_term m) [] e h

  function_fits : (m : Mark) → is_name m ≡ true → After (InGoal (goal.Names 6) ∷ st) → Fits st After (InGoal goal.ValueHead) m
  function_fits mark.Minus e h = absurd (cc)
  function_fits mark.Plus e h = absurd (cc)
  function_fits mark.Times e h = absurd (cc)
  function_fits mark.Divide e h = absurd (cc)
  function_fits m e h = passes (is_name m) (InGoal (goal.Names 6) ∷ []) e h

  fact_fits : (m : Mark) → is_goal_name m ≡ true → After (InGoal (goal.Names 6) ∷ st) → Fits st After (InGoal goal.Head) m
  fact_fits mark.And e h = absurd (cc)
  fact_fits mark.Or e h = absurd (cc)
  fact_fits mark.Not e h = absurd (cc)
  fact_fits mark.Imply e h = absurd (cc)
  fact_fits mark.Exists e h = absurd (cc)
  fact_fits mark.Forall e h = absurd (cc)
  fact_fits mark.Equal e h = absurd (cc)
  fact_fits mark.Less e h = absurd (cc)
  fact_fits mark.LessEqual e h = absurd (cc)
  fact_fits mark.GreaterEqual e h = absurd (cc)
  fact_fits mark.Greater e h = absurd (cc)
  fact_fits m e h = passes (is_goal_name m) (InGoal (goal.Names 6) ∷ []) e h

  operand_term_fits : (m : Mark) → is_term m ≡ true → After (InGoal goal.Term ∷ The mark.Close ∷ st) → Fits st After (InGoal goal.FirstOperand) m
  operand_term_fits mark.Number e h = absurd (cc)
  operand_term_fits m e h = passes (is_term m) (InGoal goal.Term ∷ The mark.Close ∷ []) e h

  -- a number is a first operand where it is the first of two values
  operand_number_fits : (m : Mark) → Fits (InGoal goal.Value ∷ The mark.Close ∷ st) After (InGoal goal.Value) m → Fits st After (InGoal goal.FirstOperand) m
  operand_number_fits mark.Number h = h
  operand_number_fits m h = absurd h

  -- a number is the last value where it has a parenthesis after it
  last_number_fits : (m : Mark) → Fits (The mark.Close ∷ st) After (InGoal goal.Value) m → Fits st After (InGoal goal.ValueOrEnd) m
  last_number_fits mark.Number h = h
  last_number_fits m h = absurd h

  operator_fits : (o : Op) (m : Mark) → m ≡ op_mark o → After (InGoal goal.Value ∷ InGoal goal.ValueOrEnd ∷ st) → After (InGoal goal.Value ∷ InGoal goal.Value ∷ The mark.Close ∷ st) → Fits st After (InGoal goal.ValueHead) m
  operator_fits op.Add m e h k = one.at_mark st After (InGoal goal.ValueHead) m mark.Plus e k
  operator_fits op.Sub m e h k = one.at_mark st After (InGoal goal.ValueHead) m mark.Minus e h
  operator_fits op.Mul m e h k = one.at_mark st After (InGoal goal.ValueHead) m mark.Times e k
  operator_fits op.Div m e h k = one.at_mark st After (InGoal goal.ValueHead) m mark.Divide e k

  relation_fits : (r : Rel) (m : Mark) → m ≡ rel_mark r → After (InGoal goal.FirstOperand ∷ st) → After (InGoal goal.Value ∷ InGoal goal.Value ∷ The mark.Close ∷ st) → Fits st After (InGoal goal.Head) m
  relation_fits rel.Lt m e h k = one.at_mark st After (InGoal goal.Head) m mark.Less e k
  relation_fits rel.Le m e h k = one.at_mark st After (InGoal goal.Head) m mark.LessEqual e k
  relation_fits rel.Eq m e h k = one.at_mark st After (InGoal goal.Head) m mark.Equal e h
  relation_fits rel.Ge m e h k = one.at_mark st After (InGoal goal.Head) m mark.GreaterEqual e k
  relation_fits rel.Gt m e h k = one.at_mark st After (InGoal goal.Head) m mark.Greater e k

-- ---- lists that stand at more than one place

-- a value with a parenthesis after it is the last one
taken_last : (t : Nested) (st : List Symbol) (After : List Symbol → Type 0) → Takes t After (InGoal goal.Value ∷ The mark.Close ∷ st) → Takes t After (InGoal goal.ValueOrEnd ∷ st)
taken_last (word l) st After h = last_number_fits st After l.mark h
taken_last (group us) st After h = (omega (arith, h.0), h.1)

-- the first of two values is a first operand
taken_first : (t : Nested) (st : List Symbol) (After : List Symbol → Type 0) → Takes t After (InGoal goal.Value ∷ InGoal goal.Value ∷ The mark.Close ∷ st) → Takes t After (InGoal goal.FirstOperand ∷ st)
taken_first (word l) st After h = operand_number_fits st After l.mark h
taken_first (group us) st After h = (omega (arith, h.0), h.1)

-- a condition is one of several
taken_among : (t : Nested) (st : List Symbol) (After : List Symbol → Type 0) → Takes t After (InGoal goal.Condition ∷ InGoal goal.Conditions ∷ st) → Takes t After (InGoal goal.Conditions ∷ st)
taken_among (word l) st After h = absurd (no_word (InGoal goal.Condition) refl (InGoal goal.Conditions ∷ st) After l.mark h)
taken_among (group ts) st After h = (omega (arith, h.0), h.1)

-- a word that is a term has a term's mark
word-is_term : (names : Table) (ps : List Param) (t : Term) (l : Lexeme) → IsTermWord names ps t l → is_term l.mark ≡ true
word-is_term names ps (Var i) l w = ap is_term w.mark
word-is_term names ps (Const n) l w = ap is_term w.mark ∙ mark_in-all is_term fixed_names mark.Name (folded (name_text names n)) refl refl

-- the words of variables with their types are a list of variables
bound_typed : (names : Table) (qs : List Param) (vs : Nesteds) → AreParamForms names qs vs → IsTypedList is_variable vs
bound_typed names _ _ no_params = no_name is_variable
bound_typed names _ _ (more_params q qs l m k ts w e v rest) =
    first_name is_variable l _ (ap is_variable w.mark) (type_name is_variable m k ts e (named-is_name names q.kind k v) (bound_typed names qs ts rest))

module _ (names : Table) where
  -- ---- facts

  terms_taken : (ps : List Param) (k : ℕ) (us : List Term) (ts : Nesteds) → length us ≤ k → AreTermForms names ps us ts → (st : List Symbol) (After : List Symbol → Type 0) → After st → TakesAll ts After (InGoal (goal.Names k) ∷ st)
  terms_taken ps k _ _ few no_terms st After h = h
  terms_taken ps zero _ _ few (more_terms u us l ts w rest) st After h = absurd (omega (arith, few))
  terms_taken ps (suc k) _ _ few (more_terms u us l ts w rest) st After h =
      more_term_fits st (TakesAll ts After) k l.mark (word-is_term names ps u l w) (terms_taken ps k us ts (omega (arith, few)) rest st After h)

  pub atom_taken : (f : Lifted) (t : Nested) → IsShort f → IsLiftedForm names [] f t → (st : List Symbol) (After : List Symbol → Type 0) → 1 + level st ≤ 64 → After st → Takes t After (InGoal goal.Atom ∷ st)
  atom_taken _ _ few (lifted f l ts w us) st After room h =
      (omega (arith, room), one.name_fits (InGoal (goal.Names 6) ∷ st) (TakesAll ts After) l.mark (named-is_name names f.head l w) (terms_taken [] 6 f.terms ts few us st After h))

  -- ---- values

  value_taken : (ps : List Param) (x : ExprTree) (t : Nested) → IsShortExpr x → IsExprForm names ps x t → (st : List Symbol) (After : List Symbol → Type 0) → expr_opens x + level st ≤ 64 → After st → Takes t After (InGoal goal.Value ∷ st)
  value_taken ps _ _ few (a_number n l m e) st After room h = one.at_mark st After (InGoal goal.Value) l.mark mark.Number m h
  value_taken ps _ _ few (a_value _ _ (lifted f l ts w us)) st After room h =
      (omega (arith, room), function_fits st (TakesAll ts After) l.mark (named-is_name names f.head l w) (terms_taken ps 6 f.terms ts few us st After h))
  value_taken ps _ _ few (a_negation x l t m form) st After room h =
      (omega (arith, room), one.at_mark st (TakesAll (more t none) After) (InGoal goal.ValueHead) l.mark mark.Minus m (value_taken ps x t few form (InGoal goal.ValueOrEnd ∷ st) (TakesAll none After) (omega (arith, room)) h))
  value_taken ps _ _ few (an_operation o x y l t u m first second) st After room h =
      let last : Takes u (TakesAll none After) (InGoal goal.Value ∷ The mark.Close ∷ st) = value_taken ps y u few.1 second (The mark.Close ∷ st) (TakesAll none After) (omega (arith, room)) h in (
        omega (arith, room),
        operator_fits st (TakesAll (more t (more u none)) After) o l.mark m
            (value_taken ps x t few.0 first (InGoal goal.ValueOrEnd ∷ st) (TakesAll (more u none) After) (omega (arith, room)) (taken_last u st (TakesAll none After) last))
            (value_taken ps x t few.0 first (InGoal goal.Value ∷ The mark.Close ∷ st) (TakesAll (more u none) After) (omega (arith, room)) last),
      )

  -- ---- conditions

  mutual
    pub condition_taken : (ps : List Param) (c : CondTree) (t : Nested) → HasGoalHeads names ps c → IsCondForm names ps c t → (st : List Symbol) (After : List Symbol → Type 0) → cond_opens c + level st ≤ 64 → After st → Takes t After (InGoal goal.Condition ∷ st)
    condition_taken ps _ _ heads (all_form _ cs l ts m forms) st After room h =
        (omega (arith, room), one.at_mark st (TakesAll ts After) (InGoal goal.Head) l.mark mark.And m (conditions_taken ps cs ts heads forms st After (omega (arith, room)) h))
    condition_taken ps _ _ heads (any_form _ cs l ts m forms) st After room h =
        (omega (arith, room), one.at_mark st (TakesAll ts After) (InGoal goal.Head) l.mark mark.Or m (conditions_taken ps cs ts heads.1 forms st After (omega (arith, room)) h))
    condition_taken ps _ _ heads (not_form _ c l t m form) st After room h =
        (omega (arith, room), one.at_mark st (TakesAll (more t none) After) (InGoal goal.Head) l.mark mark.Not m (condition_taken ps c t heads form (The mark.Close ∷ st) (TakesAll none After) (omega (arith, room)) h))
    condition_taken ps _ _ heads (imply_form _ a b l t u m one_form other) st After room h = (
      omega (arith, room),
      one.at_mark st (TakesAll (more t (more u none)) After) (InGoal goal.Head) l.mark mark.Imply m
          (condition_taken ps a t heads.1.0 one_form (InGoal goal.Condition ∷ The mark.Close ∷ st) (TakesAll (more u none) After) (omega (arith, room))
          (condition_taken ps b u heads.1.1 other (The mark.Close ∷ st) (TakesAll none After) (omega (arith, room)) h)),
    )
    condition_taken ps _ _ heads (some_form _ qs c l vs t m v form) st After room h = (
      omega (arith, room),
      one.at_mark st (TakesAll (more (group vs) (more t none)) After) (InGoal goal.Head) l.mark mark.Exists m
          (bound_taken vs (bound_typed names qs vs v) (InGoal goal.Condition ∷ The mark.Close ∷ st) (TakesAll (more t none) After) (omega (arith, room))
          (condition_taken (ps ++ qs) c t heads.1 form (The mark.Close ∷ st) (TakesAll none After) (omega (arith, room)) h)),
    )
    condition_taken ps _ _ heads (each_form _ qs c l vs t m v form) st After room h = (
      omega (arith, room),
      one.at_mark st (TakesAll (more (group vs) (more t none)) After) (InGoal goal.Head) l.mark mark.Forall m
          (bound_taken vs (bound_typed names qs vs v) (InGoal goal.Condition ∷ The mark.Close ∷ st) (TakesAll (more t none) After) (omega (arith, room))
          (condition_taken (ps ++ qs) c t heads.1 form (The mark.Close ∷ st) (TakesAll none After) (omega (arith, room)) h)),
    )
    condition_taken ps _ _ heads (fact_form _ _ _ (lifted f l ts w us)) st After room h =
        (omega (arith, room), fact_fits st (TakesAll ts After) l.mark (ap is_goal_name w.mark ∙ heads.1) (terms_taken ps 6 f.terms ts heads.0 us st After h))
    condition_taken ps _ _ heads (same_form _ a b l m n e v w) st After room h = (
      omega (arith, room),
      one.at_mark st (TakesAll (more (word m) (more (word n) none)) After) (InGoal goal.Head) l.mark mark.Equal e
          (operand_term_fits st (TakesAll (more (word n) none) After) m.mark (word-is_term names ps a m v)
          (term_fits (The mark.Close ∷ st) (TakesAll none After) n.mark (word-is_term names ps b n w) h)),
    )
    condition_taken ps _ _ heads (comparison_form _ r x y l t u m first second) st After room h =
        let last : Takes u (TakesAll none After) (InGoal goal.Value ∷ The mark.Close ∷ st) = value_taken ps y u heads.1 second (The mark.Close ∷ st) (TakesAll none After) (omega (arith, room)) h in
        let both : Takes t (TakesAll (more u none) After) (InGoal goal.Value ∷ InGoal goal.Value ∷ The mark.Close ∷ st) = value_taken ps x t heads.0 first (InGoal goal.Value ∷ The mark.Close ∷ st) (TakesAll (more u none) After) (omega (arith, room)) last in
        (omega (arith, room), relation_fits st (TakesAll (more t (more u none)) After) r l.mark m (taken_first t st (TakesAll (more u none) After) both) both)

    conditions_taken : (ps : List Param) (cs : CondTrees) (ts : Nesteds) → HaveGoalHeads names ps cs → AreCondForms names ps cs ts → (st : List Symbol) (After : List Symbol → Type 0) → suc (conds_open cs) + level st ≤ 64 → After st → TakesAll ts After (InGoal goal.Conditions ∷ st)
    conditions_taken ps _ _ heads (no_forms _) st After room h = h
    conditions_taken ps _ _ heads (more_forms _ c cs t ts form forms) st After room h =
        taken_among t st (TakesAll ts After) (condition_taken ps c t heads.0 form (InGoal goal.Conditions ∷ st) (TakesAll ts After) (omega (arith, room)) (conditions_taken ps cs ts heads.1 forms st After (omega (arith, room)) h))
