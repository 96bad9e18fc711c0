-- The lists of facts, values and goals mean them.
use Rattle.std.proofs.Common.{◌≡◌, ℕ, zero, suc, ◌-◌, ◌<◌, ◌≤◌, true, false, List, [], ◌∷◌, ◌++◌, get_or, length, map, position, take, Some, refl, ap, ◌∙◌, arith}
use Rattle.std.specs.List.{All, position_or_len}
use Rattle.std.proofs.lemmas.Bool.{eq-eqb, lt-ltb}
use Rattle.std.proofs.lemmas.List.{length-append, take_all}
use Rattle.std.proofs.lemmas.List.Sums.{position_or_len_is}
use Rattle.std.proofs.lemmas.List.Elements.{All-head, All-tail}
use Rattle.ps_world.specs.ExprViews.{expr_tree}
use Rattle.ps_world.specs.CondViews.{cond_tree}
use Rattle.ps_world.specs.Knowledge.{name_of}
use Rattle.ps_world.specs.Names.{Table, object, same_name}
use Rattle.ps_world.specs.Trees.{ExprTree, CondTree, CondTrees, list_of}
use Rattle.ps_world.specs.declared.domains.Param.{Param}
use Rattle.ps_world.specs.declared.facts.Fact.{Fact}
use Rattle.ps_world.specs.declared.names.Name.{Name}
use Rattle.ps_world.specs.declared.schemas.Term.{Term}
use Rattle.ps_world.specs.declared.schemas.Term.TheVariants.{Var, Const}
use Rattle.ps_world.specs.declared.schemas.Lifted.{Lifted}
use Rattle.ps_world.specs.declared.expressions.Expr.TheVariants as expr
use Rattle.ps_world.specs.declared.conditions.Cond.{Cond}
use Rattle.ps_world.specs.declared.conditions.Cond.TheVariants as cond
use Rattle.ps_world.specs.declared.conditions.Rel.{Rel}
use Rattle.ps_world.specs.declared.conditions.Rel.TheVariants.{Lt, Le, Eq, Ge, Gt}
use Rattle.ps_grammar.specs.Marks.{is, is_goal_name, is_name}
use Rattle.ps_grammar.specs.declared.marks.Mark.{Mark}
use Rattle.ps_grammar.specs.declared.marks.Mark.TheVariants as mark
use Rattle.ps_lists.specs.Nested.{Nested, Nesteds, word, none, more}
use Rattle.ps_lists.specs.Places.{items}
use Rattle.ps_lists.specs.declared.lexemes.Lexeme.{Lexeme}
use Rattle.ps_print.specs.CanonicalWords.{IsTermOf, IsLiftedOf, IsExprOf, IsCondOf, AreCondsOf}
use Rattle.ps_conditions.specs.Conditions as meant
use Rattle.ps_conditions.specs.Signs.{head_of, rel_of}
use Rattle.ps_conditions.specs.declared.signs.Head.TheVariants.{Plain}
use Rattle.ps_conditions.specs.Steps.{certain}
use Rattle.ps_conditions.specs.Values as worth
use Rattle.ps_conditions.proofs.Certain.{conditions-each, each}
use Rattle.ps_script.specs.Goals.{bound, condition, fact_of, lifted, line_scopes, line_words, names_of, term, terms_of, typed}
use Rattle.ps_pddl.proofs.CanonicalForms.{IsNamed, IsTermWord, AreTermForms, no_terms, more_terms, AreParamForms, no_params, more_params, param_name, IsLiftedForm, op_mark, IsExprForm, a_number, a_value, a_negation, an_operation, rel_mark, IsCondForm, all_form, any_form, not_form, imply_form, fact_form, same_form, comparison_form, some_form, each_form, AreCondForms, no_forms, more_forms}
use Rattle.ps_pddl.proofs.CanonicalForms as form
use Rattle.ps_pddl.specs.WellFormed.{AreApart}
use Rattle.ps_pddl.proofs.MeanConditions.{uncond, cond_tree-uncond, uncond-cond_tree, head_of-rel, rel_of-rel}
use Rattle.ps_pddl.proofs.SoundLists.{same_turned}
use Rattle.ps_pddl.proofs.MeanMarks.{name-isnt, operator_of-name, rel_of-name}
use Rattle.ps_pddl.proofs.MeanTerms.{named-is_name, untree, expr_tree-untree, operator_of-op}
use Rattle.ps_script_laws.specs.Sayable.{IsShort, IsShortExpr, HasGoalHeads, HaveGoalHeads}

-- ---- facts as conditions

-- a fact as a condition holds it
abbrev pub lifted_fact : Fact → Lifted
lifted_fact f = record { head = f.head; terms = map Const f.args }

names_again : (ns : List Name) → map name_of (map Const ns) ≡ ns
names_again [] = refl
names_again (n ∷ ns) = ap (λ more. n ∷ more) (names_again ns)

-- ---- marks

-- the head of a goal's fact is no form's own word
head_of-goal : (m : Mark) → is_goal_name m ≡ true → head_of m ≡ Plain
head_of-goal mark.And h = absurd (cc)
head_of-goal mark.Or h = absurd (cc)
head_of-goal mark.Not h = absurd (cc)
head_of-goal mark.Imply h = absurd (cc)
head_of-goal mark.Exists h = absurd (cc)
head_of-goal mark.Forall h = absurd (cc)
head_of-goal m h = refl

-- a name at the head of a list is that of a function
operation-name : (ps : List Param) (l : Lexeme) (ts : Nesteds) → is_name l.mark ≡ true → worth.operation certain (line_words ps) (more (word l) ts) ≡ expr.Fun (lifted ps l ts)
operation-name ps l none h = refl
operation-name ps l (more a none) h = rw (name-isnt mark.Minus l.mark h refl) refl
operation-name ps l (more a (more b ts)) h = rw (operator_of-name l.mark h) refl

-- and of a predicate
plain-name : (ps : List Param) (l : Lexeme) (ts : Nesteds) → is_name l.mark ≡ true → meant.plain_condition certain (line_words ps) l ts ≡ cond.Holds (lifted ps l ts)
plain-name ps l none h = refl
plain-name ps l (more a none) h = refl
plain-name ps l (more a (more b ts)) h = rw (rel_of-name l.mark h) refl

-- ---- variables

-- the first variable of a name stands at its place
place_of_own : (ps : List Param) (i : ℕ) → AreApart (λ p. p.name) ps → i < length ps → position (λ q. same_name (param_name ps i) q.name) ps ≡ Some i
place_of_own ps i apart within =
    let nobody : Param = record { name = object; kind = object } in
    let first : position_or_len (λ q. same_name (param_name ps i) q.name) ps ≡ i =
    position_or_len_is (λ q. same_name (param_name ps i) q.name) ps i nobody (omega (arith, within))
    (λ k lt. same_turned (get_or ps k nobody).name (param_name ps i) (apart k i nobody lt within))
    (λ lt. eq-eqb (param_name ps i).0 (param_name ps i).0 refl) in
    rw (first, lt-ltb i (length ps) within) refl

-- the words of variables with their types list them
typed-means : (names : Table) (qs : List Param) (vs : Nesteds) → AreParamForms names qs vs → typed vs ≡ qs
typed-means names _ _ no_params = refl
typed-means names _ _ (more_params q qs l m k ts w e v rest) = rw (w.mark, e, w.name, v.name, typed-means names qs ts rest) refl

bound-means : (names : Table) (ps qs : List Param) (vs : Nesteds) → length (ps ++ qs) ≤ 2 → AreParamForms names qs vs → bound ps vs ≡ qs
bound-means names ps qs vs few v = rw (typed-means names qs vs v) (take_all (2 - length ps) qs (omega (arith, few, length-append ps qs)))

module _ (names : Table) (count : ℕ) where
  -- ---- facts

  -- words that are names give these names
  args-mean : (k : ℕ) (us : List Term) (ts : Nesteds) → length us ≤ k → All (IsTermOf count 0) us → AreTermForms names [] us ts → take k (names_of ts) ≡ map name_of us
  args-mean zero _ _ few known no_terms = refl
  args-mean (suc k) _ _ few known no_terms = refl
  args-mean zero _ _ few known (more_terms u us l ts w rest) = absurd (omega (arith, few))
  args-mean (suc k) _ _ few known (more_terms (Var i) us l ts w rest) = absurd (omega (arith, All-head (IsTermOf count 0) (Var i) us known))
  args-mean (suc k) _ _ few known (more_terms (Const n) us l ts w rest) =
      rw (w.name, args-mean k us ts (omega (arith, few)) (All-tail (IsTermOf count 0) (Const n) us known) rest) refl

  fact-by : (f : Fact) (g : Lifted) (t : Nested) → g.head ≡ f.head → map name_of g.terms ≡ f.args → IsLiftedOf count 0 g → IsShort g → IsLiftedForm names [] g t → fact_of (items t) ≡ f
  fact-by f _ _ head args known few (form.lifted g l ts w us) = rw (w.name, args-mean 6 g.terms ts few known.1 us, head, args) refl

  -- the list of a fact means it
  pub fact-means : (f : Fact) (t : Nested) → IsLiftedOf count 0 (lifted_fact f) → IsShort (lifted_fact f) → IsLiftedForm names [] (lifted_fact f) t → fact_of (items t) ≡ f
  fact-means f t known few h = fact-by f (lifted_fact f) t refl (names_again f.args) known few h

module _ (names : Table) (count : ℕ) (ps : List Param) (apart : AreApart (λ p. p.name) ps) where
  -- ---- terms

  term-means : (t : Term) (l : Lexeme) → IsTermOf count (length ps) t → IsTermWord names ps t l → term ps l ≡ t
  term-means (Var i) l h w = rw (w.mark, w.name, place_of_own ps i apart h) refl
  term-means (Const n) l h w = rw (name-isnt mark.Variable l.mark (named-is_name names n l w) refl, w.name) refl

  terms-mean : (k : ℕ) (us : List Term) (ts : Nesteds) → length us ≤ k → All (IsTermOf count (length ps)) us → AreTermForms names ps us ts → take k (terms_of ps ts) ≡ us
  terms-mean zero _ _ few known no_terms = refl
  terms-mean (suc k) _ _ few known no_terms = refl
  terms-mean zero _ _ few known (more_terms u us l ts w rest) = absurd (omega (arith, few))
  terms-mean (suc k) _ _ few known (more_terms u us l ts w rest) =
      rw (term-means u l (All-head (IsTermOf count (length ps)) u us known) w, terms-mean k us ts (omega (arith, few)) (All-tail (IsTermOf count (length ps)) u us known) rest) refl

  lifted-means : (f : Lifted) (l : Lexeme) (ts : Nesteds) → IsLiftedOf count (length ps) f → IsShort f → IsNamed names f.head l → AreTermForms names ps f.terms ts → lifted ps l ts ≡ f
  lifted-means f l ts known few w us = rw (w.name, terms-mean 6 f.terms ts few known.1 us) refl

  -- a term is no number
  term-isnt_number : (t : Term) (l : Lexeme) → IsTermWord names ps t l → is mark.Number l.mark ≡ false
  term-isnt_number (Var i) l w = rw w.mark refl
  term-isnt_number (Const n) l w = name-isnt mark.Number l.mark (named-is_name names n l w) refl

  -- ---- values

  value-means : (x : ExprTree) (t : Nested) → IsExprOf count (length ps) x → IsShortExpr x → IsExprForm names ps x t → worth.value certain (line_words ps) t ≡ untree x
  value-means _ _ known few (a_number n l m e) = rw e refl
  value-means _ _ known few (a_value f _ (form.lifted _ l ts w us)) =
      operation-name ps l ts (named-is_name names f.head l w) ∙ ap expr.Fun (lifted-means f l ts known few w us)
  value-means _ _ known few (a_negation x l t m k) = rw (m, value-means x t known few k, expr_tree-untree x) refl
  value-means _ _ known few (an_operation o x y l t u m j k) =
      rw (m, operator_of-op o, value-means x t known.0 few.0 j, value-means y u known.1 few.1 k, expr_tree-untree x, expr_tree-untree y) refl

  -- numbers are compared where the first operand is one
  equality-numbers : (x : ExprTree) (t u : Nested) → IsExprForm names ps x t → meant.equality certain (line_words ps) t u ≡ cond.Cmp Eq (expr_tree (worth.value certain (line_words ps) t)) (expr_tree (worth.value certain (line_words ps) u))
  equality-numbers _ _ u (a_number n l m e) = rw m refl
  equality-numbers _ _ u (a_value f _ (form.lifted _ l ts w k)) = refl
  equality-numbers _ _ u (a_negation x l t m k) = refl
  equality-numbers _ _ u (an_operation o x y l t v m j k) = refl

  related-means : (r : Rel) (x : ExprTree) (t u : Nested) (other : Cond) → IsExprForm names ps x t → meant.related certain (line_words ps) (Some r) t u other ≡ cond.Cmp r (expr_tree (worth.value certain (line_words ps) t)) (expr_tree (worth.value certain (line_words ps) u))
  related-means Lt x t u other k = refl
  related-means Le x t u other k = refl
  related-means Eq x t u other k = equality-numbers x t u k
  related-means Ge x t u other k = refl
  related-means Gt x t u other k = refl

module _ (names : Table) (count : ℕ) where
  -- ---- conditions

  mutual
    condition-means : (ps : List Param) → AreApart (λ p. p.name) ps → (c : CondTree) (t : Nested) → IsCondOf count ps c → HasGoalHeads names ps c → IsCondForm names ps c t → meant.condition certain line_scopes ps t ≡ uncond c
    condition-means ps apart _ _ known heads (all_form _ cs l ts m k) = rw (m, conditions-each line_scopes ps ts [], conditions-mean ps apart cs ts known heads k) refl
    condition-means ps apart _ _ known heads (any_form _ cs l ts m k) = rw (m, conditions-each line_scopes ps ts [], conditions-mean ps apart cs ts known.1 heads.1 k) refl
    condition-means ps apart _ _ known heads (not_form _ c l t m k) = rw (m, condition-means ps apart c t known heads k, cond_tree-uncond c) refl
    condition-means ps apart _ _ known heads (imply_form _ a b l t u m j k) =
        rw (m, condition-means ps apart a t known.1.0 heads.1.0 j, condition-means ps apart b u known.1.1 heads.1.1 k, cond_tree-uncond a, cond_tree-uncond b) refl
    condition-means ps apart _ _ known heads (some_form _ qs c l vs t m v k) =
        rw (m, bound-means names ps qs vs heads.0.few v, condition-means (ps ++ qs) heads.0.apart c t known.1 heads.1 k, cond_tree-uncond c) refl
    condition-means ps apart _ _ known heads (each_form _ qs c l vs t m v k) =
        rw (m, bound-means names ps qs vs heads.0.few v, condition-means (ps ++ qs) heads.0.apart c t known.1 heads.1 k, cond_tree-uncond c) refl
    condition-means ps apart _ _ known heads (fact_form _ f _ (form.lifted _ l ts w us)) =
        let head : is_goal_name l.mark ≡ true = ap is_goal_name w.mark ∙ heads.1 in
        rw (head_of-goal l.mark head, plain-name ps l ts (named-is_name names f.head l w), lifted-means names count ps apart f l ts known heads.0 w us) refl
    condition-means ps apart _ _ known heads (same_form _ a b l m n e v w) =
        rw (e, term-isnt_number names count ps apart a m v, term-means names count ps apart a m known.0 v, term-means names count ps apart b n known.1 w) refl
    condition-means ps apart _ _ known heads (comparison_form _ r x y l t u m j k) =
        let plain : head_of l.mark ≡ Plain = rw m (head_of-rel r) in
        let sign : rel_of l.mark ≡ Some r = rw m (rel_of-rel r) in
        rw (plain, sign, related-means names count ps apart r x t u (cond.Holds (lifted ps l (more t (more u none)))) j, value-means names count ps apart x t known.0 heads.0 j, value-means names count ps apart y u known.1 heads.1 k, expr_tree-untree x, expr_tree-untree y) refl

    conditions-mean : (ps : List Param) → AreApart (λ p. p.name) ps → (cs : CondTrees) (ts : Nesteds) → AreCondsOf count ps cs → HaveGoalHeads names ps cs → AreCondForms names ps cs ts → each line_scopes ps ts ≡ list_of cs
    conditions-mean ps apart _ _ known heads (no_forms _) = refl
    conditions-mean ps apart _ _ known heads (more_forms _ c cs t ts k rest) =
        rw (condition-means ps apart c t known.0 heads.0 k, cond_tree-uncond c, conditions-mean ps apart cs ts known.1 heads.1 rest) refl

  -- the list of a goal means it
  pub goal-means : (goal : Cond) (t : Nested) → IsCondOf count [] (cond_tree goal) → HasGoalHeads names [] (cond_tree goal) → IsCondForm names [] (cond_tree goal) t → condition t ≡ goal
  goal-means goal t known heads h = condition-means [] (λ i j d lt within. absurd (omega (arith, within))) (cond_tree goal) t known heads h ∙ uncond-cond_tree goal
