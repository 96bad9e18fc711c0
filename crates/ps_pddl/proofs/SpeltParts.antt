-- The words of names, terms, values, conditions and effects spell the forms of these.
use Rattle.std.proofs.Common.{◌≡◌, ℕ, ℤ, suc, true, Some, pos, List, [], ◌∷◌, ◌++◌, codes, length, arith, refl, ap, ◌∙◌}
use Rattle.std.proofs.lemmas.List.Elements.{All-head, All-tail, All-append}
use Rattle.std.specs.List.{All, flat_map}
use Rattle.std.specs.Result.{result_unwrap_or}
use Rattle.ps_world.specs.Names.{Table, object, name_text}
use Rattle.ps_world.specs.Numbers.{IsCount, number_text}
use Rattle.ps_world.specs.DomainTexts.{term_text, op_text, rel_text, num_op_text}
use Rattle.ps_world.specs.Trees.{ExprTree, number, value_of, negated, operated, CondTree, CondTrees, all_of, any_of, no, implied, holds, same, compares, is_a, for_some, for_all}
use Rattle.ps_world.specs.Trees as tree
use Rattle.ps_world.specs.ExprViews.{expr_tree}
use Rattle.ps_world.specs.CondViews.{cond_tree}
use Rattle.ps_world.specs.declared.names.Name.{Name}
use Rattle.ps_world.specs.declared.schemas.Term.{Term}
use Rattle.ps_world.specs.declared.schemas.Term.TheVariants.{Var, Const}
use Rattle.ps_world.specs.declared.schemas.Lifted.{Lifted}
use Rattle.ps_world.specs.declared.expressions.Op.{Op}
use Rattle.ps_world.specs.declared.expressions.Op.TheVariants as op
use Rattle.ps_world.specs.declared.conditions.Rel.{Rel}
use Rattle.ps_world.specs.declared.conditions.Rel.TheVariants as rel
use Rattle.ps_world.specs.declared.actions.NumOp.{NumOp}
use Rattle.ps_world.specs.declared.actions.NumOp.TheVariants as num_op
use Rattle.ps_world.specs.declared.actions.Effect.{Effect}
use Rattle.ps_world.specs.declared.actions.Effect.TheVariants.{Add, Delete, Number}
use Rattle.ps_world.specs.declared.actions.Guarded.{Guarded}
use Rattle.ps_world.specs.declared.actions.Guarded.TheVariants.{When}
use Rattle.ps_world.specs.declared.actions.Spread.{Spread}
use Rattle.ps_world.specs.declared.actions.Spread.TheVariants.{ForAll}
use Rattle.ps_world.specs.declared.conditions.Cond.{Cond}
use Rattle.ps_world.specs.declared.domains.Param.{Param}
use Rattle.ps_text.specs.Names.{folded, AreNames, IsNameText}
use Rattle.ps_text.specs.Tokens.{class_of}
use Rattle.ps_text.specs.declared.lexing.Class.TheVariants as class
use Rattle.ps_text.proofs.Printed.{number_of-printed}
use Rattle.ps_grammar.specs.declared.marks.Mark.TheVariants as mark
use Rattle.ps_lists.specs.Lexemes.{fixed_names, mark_of}
use Rattle.ps_lists.specs.Nested.{Nested, Nesteds, word, group, none, more}
use Rattle.ps_lists.specs.declared.lexemes.Lexeme.{Lexeme}
use Rattle.ps_print.specs.CanonicalWords.{param_words, term_words, lifted_words, expr_words, cond_words, conds_words, effect_words, guarded_words, spread_words, IsNameOf, IsParamOf, IsTermOf, IsLiftedOf, IsExprOf, IsCondOf, AreCondsOf, IsEffectOf, IsGuardedOf, IsSpreadOf}
use Rattle.ps_pddl.proofs.CanonicalForms.{name_mark, IsNamed, IsVariable, param_name, IsTermWord, AreTermForms, IsLiftedForm, op_mark, IsExprForm, rel_mark, AreParamForms, IsCondForm, AreCondForms, num_op_mark, IsEffectForm, IsGuardedForm, plain_form, when_form, IsSpreadForm, once_form, spread_form, AreForms}
use Rattle.ps_pddl.proofs.CanonicalForms.AreTermForms.{no_terms, more_terms}
use Rattle.ps_pddl.proofs.CanonicalForms.IsLiftedForm.{lifted}
use Rattle.ps_pddl.proofs.CanonicalForms.IsExprForm.{a_number, a_value, a_negation, an_operation}
use Rattle.ps_pddl.proofs.CanonicalForms.AreParamForms.{no_params, more_params}
use Rattle.ps_pddl.proofs.CanonicalForms.IsCondForm.{all_form, any_form, not_form, imply_form, fact_form, same_form, comparison_form, some_form, each_form}
use Rattle.ps_pddl.proofs.CanonicalForms.AreCondForms.{no_forms, more_forms}
use Rattle.ps_pddl.proofs.CanonicalForms.IsEffectForm.{an_addition, a_deletion, a_change}
use Rattle.ps_pddl.proofs.Fits.{IsVariableName, FitParams, BindsFree, BindFree, fits_free, FitsGuarded, fits_plain, fits_when, FitsSpread, fits_once, fits_for_each}
use Rattle.ps_pddl.proofs.NameMarks.{mark_in-all}
use Rattle.ps_pddl.proofs.SpeltWords.{Spelt, AllSpelt, AfterWord, after_word, is_plain, word_alone, word_first, nothing_spelt, one_as, one_first, one_last, all_last, group_first, group_last, group_spelt, spelt_and, spelt_each}
use Rattle.ps_pddl.proofs.WordClasses.{class_of-name, class_of-variable, class_of-number}
use Rattle.ps_pddl.proofs.WordLexemes.{IsLexemeOf}

-- ---- signs and fixed words

op_class : (o : Op) → class_of (op_text o) ≡ Some class.Sign
op_class op.Add = refl
op_class op.Sub = refl
op_class op.Mul = refl
op_class op.Div = refl

op_mark-text : (o : Op) → mark_of class.Sign (op_text o) ≡ op_mark o
op_mark-text op.Add = refl
op_mark-text op.Sub = refl
op_mark-text op.Mul = refl
op_mark-text op.Div = refl

op_plain : (o : Op) → is_plain (mark_of class.Sign (op_text o)) ≡ true
op_plain op.Add = refl
op_plain op.Sub = refl
op_plain op.Mul = refl
op_plain op.Div = refl

rel_class : (r : Rel) → class_of (rel_text r) ≡ Some class.Sign
rel_class rel.Lt = refl
rel_class rel.Le = refl
rel_class rel.Eq = refl
rel_class rel.Ge = refl
rel_class rel.Gt = refl

rel_mark-text : (r : Rel) → mark_of class.Sign (rel_text r) ≡ rel_mark r
rel_mark-text rel.Lt = refl
rel_mark-text rel.Le = refl
rel_mark-text rel.Eq = refl
rel_mark-text rel.Ge = refl
rel_mark-text rel.Gt = refl

rel_plain : (r : Rel) → is_plain (mark_of class.Sign (rel_text r)) ≡ true
rel_plain rel.Lt = refl
rel_plain rel.Le = refl
rel_plain rel.Eq = refl
rel_plain rel.Ge = refl
rel_plain rel.Gt = refl

num_op_class : (how : NumOp) → class_of (num_op_text how) ≡ Some class.Name
num_op_class num_op.Assign = refl
num_op_class num_op.Increase = refl
num_op_class num_op.Decrease = refl
num_op_class num_op.ScaleUp = refl
num_op_class num_op.ScaleDown = refl

num_op_mark-text : (how : NumOp) → mark_of class.Name (num_op_text how) ≡ num_op_mark how
num_op_mark-text num_op.Assign = refl
num_op_mark-text num_op.Increase = refl
num_op_mark-text num_op.Decrease = refl
num_op_mark-text num_op.ScaleUp = refl
num_op_mark-text num_op.ScaleDown = refl

num_op_plain : (how : NumOp) → is_plain (mark_of class.Name (num_op_text how)) ≡ true
num_op_plain num_op.Assign = refl
num_op_plain num_op.Increase = refl
num_op_plain num_op.Decrease = refl
num_op_plain num_op.ScaleUp = refl
num_op_plain num_op.ScaleDown = refl

-- a number's word has its number
number-text : (names : Table) (z : ℤ) → IsCount z → (l : Lexeme) → IsLexemeOf names (number_text z) l → l.number ≡ z
number-text names z h l is = is.number ∙ ap (λ r. result_unwrap_or r (pos 0)) (number_of-printed z h)

module _ (names : Table) (good : AreNames names) where
  abbrev count : ℕ
  count = length names

  -- ---- names and variables

  text_of : (n : Name) → IsNameOf count n → IsNameText (name_text names n)
  text_of n h = good.texts n.0 [] h

  named-word : (n : Name) → IsNameOf count n → (l : Lexeme) → IsLexemeOf names (name_text names n) l → IsNamed names n l
  named-word n h l is =
      let found = class_of-name (name_text names n) (text_of n h).name in
      record { mark = is.mark class.Name found; name = is.name class.Name n found h (ap Some (text_of n h).lower_case) }

  variable-word : (n : Name) → IsNameOf count n → IsVariableName names n → (l : Lexeme) → IsLexemeOf names (codes "?" ++ name_text names n) l → IsVariable n l
  variable-word n h free l is =
      let found = class_of-variable (name_text names n) (text_of n h).name in
      record { mark = is.mark class.Variable found ∙ free; name = is.name class.Variable n found h (ap Some (text_of n h).lower_case) }

  plain_name : (n : Name) → is_plain (name_mark names n) ≡ true
  plain_name n = mark_in-all is_plain fixed_names mark.Name (folded (name_text names n)) refl refl

  -- a name before other words
  pub name_first : {ws : List (List ℕ)} {P : Nesteds → Type 0} (n : Name) → IsNameOf count n → ((l : Lexeme) → IsNamed names n l → AllSpelt names ws (λ ts. P (more (word l) ts))) → AllSpelt names (name_text names n ∷ ws) P
  name_first n h next = word_first (name_text names n) class.Name (class_of-name (name_text names n) (text_of n h).name) (plain_name n) (λ l is. next l (named-word n h l is))

  -- a variable before other words
  pub variable_first : {ws : List (List ℕ)} {P : Nesteds → Type 0} (n : Name) → IsNameOf count n → IsVariableName names n → ((l : Lexeme) → IsVariable n l → AllSpelt names ws (λ ts. P (more (word l) ts))) → AllSpelt names ((codes "?" ++ name_text names n) ∷ ws) P
  variable_first n h free next =
      word_first (codes "?" ++ name_text names n) class.Variable (class_of-variable (name_text names n) (text_of n h).name) (ap is_plain free) (λ l is. next l (variable-word n h free l is))

  module _ (ps : List Param) (known : All (IsParamOf count) ps) (free : FitParams names ps) where
    -- ---- terms

    term_first : {ws : List (List ℕ)} {P : Nesteds → Type 0} (t : Term) → IsTermOf count (length ps) t → ((l : Lexeme) → IsTermWord names ps t l → AllSpelt names ws (λ ts. P (more (word l) ts))) → AllSpelt names (term_text names ps t ∷ ws) P
    term_first (Var i) h next = variable_first (param_name ps i) (known i (record { name = object; kind = object }) h).0 (free i (record { name = object; kind = object }) h) next
    term_first (Const n) h next = name_first n h next

    spelt_terms : (ts : List Term) → All (IsTermOf count (length ps)) ts → AllSpelt names (flat_map (term_words names ps) ts) (AreTermForms names ps ts)
    spelt_terms [] h = nothing_spelt no_terms
    spelt_terms (t ∷ ts) h =
        term_first t (All-head (IsTermOf count (length ps)) t ts h) (λ l is.
        all_last (spelt_terms ts (All-tail (IsTermOf count (length ps)) t ts h)) (λ us forms. more_terms t ts l us is forms))

    pub spelt_lifted : (f : Lifted) → IsLiftedOf count (length ps) f → Spelt names (lifted_words names ps f) (IsLiftedForm names ps f)
    spelt_lifted f h = group_spelt (name_first f.head h.0 (λ l is. all_last (spelt_terms f.terms h.1) (λ us forms. lifted f l us is forms)))

    -- ---- values

    pub spelt_expr : (x : ExprTree) → IsExprOf count (length ps) x → Spelt names (expr_words names ps x) (IsExprForm names ps x)
    spelt_expr (number n) h = word_alone (number_text n) class.Number (class_of-number n h) refl (λ l is. a_number n l (is.mark class.Number (class_of-number n h)) (number-text names n h l is))
    spelt_expr (value_of f) h = one_as (spelt_lifted f h) (λ t form. a_value f t form)
    spelt_expr (negated x) h = group_spelt (word_first (codes "-") class.Sign refl refl (λ l is. one_last (spelt_expr x h) (λ t form. a_negation x l t (is.mark class.Sign refl) form)))
    spelt_expr (operated o x y) h =
        group_spelt (word_first (op_text o) class.Sign (op_class o) (op_plain o) (λ l is.
        one_first (spelt_expr x h.0) (λ t first.
        one_last (spelt_expr y h.1) (λ u second. an_operation o x y l t u (is.mark class.Sign (op_class o) ∙ op_mark-text o) first second))))

    -- ---- effects

    pub spelt_effect : (e : Effect) → IsEffectOf count (length ps) e → Spelt names (effect_words names ps e) (IsEffectForm names ps e)
    spelt_effect (Add f) h = one_as (spelt_lifted f h) (λ t form. an_addition f t form)
    spelt_effect (Delete f) h = group_spelt (word_first (codes "not") class.Name refl refl (λ l is. one_last (spelt_lifted f h) (λ t form. a_deletion f l t (is.mark class.Name refl) form)))
    spelt_effect (Number how f x) h =
        group_spelt (word_first (num_op_text how) class.Name (num_op_class how) (num_op_plain how) (λ l is.
        one_first (spelt_lifted f h.0) (λ t first.
        one_last (spelt_expr (expr_tree x) h.1) (λ u second. a_change how f x l t u (is.mark class.Name (num_op_class how) ∙ num_op_mark-text how) first second))))

  -- ---- conditions

  pub spelt_params : (ps : List Param) → All (IsParamOf count) ps → FitParams names ps → AllSpelt names (flat_map (param_words names) ps) (AreParamForms names ps)
  spelt_params [] h free = nothing_spelt no_params
  spelt_params (p ∷ ps) h free =
      let here = All-head (IsParamOf count) p ps h in
      variable_first p.name here.0 (free 0 p (omega arith)) (λ l is.
      word_first (codes "-") class.Sign refl refl (λ m minus.
      name_first p.kind here.1 (λ k kind.
      all_last (spelt_params ps (All-tail (IsParamOf count) p ps h) (λ j d lt. free (suc j) d (omega arith))) (λ ts forms. more_params p ps l m k ts is (minus.mark class.Sign refl) kind forms))))

  both_free : (ps qs : List Param) → FitParams names ps → FitParams names qs → FitParams names (ps ++ qs)
  both_free ps qs h k = All-append (λ p. IsVariableName names p.name) ps qs h k

  mutual
    pub spelt_cond : (ps : List Param) → All (IsParamOf count) ps → FitParams names ps → (c : CondTree) → IsCondOf count ps c → BindsFree names ps c → Spelt names (cond_words names ps c) (IsCondForm names ps c)
    spelt_cond ps known free (all_of cs) h b = group_spelt (word_first (codes "and") class.Name refl refl (λ l is. all_last (spelt_conds ps known free cs h b) (λ ts forms. all_form ps cs l ts (is.mark class.Name refl) forms)))
    spelt_cond ps known free (any_of cs) h b = group_spelt (word_first (codes "or") class.Name refl refl (λ l is. all_last (spelt_conds ps known free cs h.1 b.1) (λ ts forms. any_form ps cs l ts (is.mark class.Name refl) forms)))
    spelt_cond ps known free (no c) h b = group_spelt (word_first (codes "not") class.Name refl refl (λ l is. one_last (spelt_cond ps known free c h b) (λ t form. not_form ps c l t (is.mark class.Name refl) form)))
    spelt_cond ps known free (implied x y) h b =
        group_spelt (word_first (codes "imply") class.Name refl refl (λ l is.
        one_first (spelt_cond ps known free x h.1.0 b.1.0) (λ t first.
        one_last (spelt_cond ps known free y h.1.1 b.1.1) (λ u second. imply_form ps x y l t u (is.mark class.Name refl) first second))))
    spelt_cond ps known free (holds f) h b = one_as (spelt_lifted ps known free f h) (λ t form. fact_form ps f t form)
    spelt_cond ps known free (same s t) h b =
        group_spelt (word_first (codes "=") class.Sign refl refl (λ l is.
        term_first ps known free s h.0 (λ m first.
        term_first ps known free t h.1 (λ n second. nothing_spelt (same_form ps s t l m n (is.mark class.Sign refl) first second)))))
    spelt_cond ps known free (compares r x y) h b =
        group_spelt (word_first (rel_text r) class.Sign (rel_class r) (rel_plain r) (λ l is.
        one_first (spelt_expr ps known free x h.0) (λ t first.
        one_last (spelt_expr ps known free y h.1) (λ u second. comparison_form ps r x y l t u (is.mark class.Sign (rel_class r) ∙ rel_mark-text r) first second))))
    spelt_cond ps known free (is_a t k) h b = absurd h
    spelt_cond ps known free (for_some qs c) h b =
        group_spelt (word_first (codes "exists") class.Name refl refl (λ l is.
        group_first (spelt_params qs h.0 b.0) (λ vs variables.
        one_last (spelt_cond (ps ++ qs) (All-append (IsParamOf count) ps qs known h.0) (both_free ps qs free b.0) c h.1 b.1) (λ t form. some_form ps qs c l vs t (is.mark class.Name refl) variables form))))
    spelt_cond ps known free (for_all qs c) h b =
        group_spelt (word_first (codes "forall") class.Name refl refl (λ l is.
        group_first (spelt_params qs h.0 b.0) (λ vs variables.
        one_last (spelt_cond (ps ++ qs) (All-append (IsParamOf count) ps qs known h.0) (both_free ps qs free b.0) c h.1 b.1) (λ t form. each_form ps qs c l vs t (is.mark class.Name refl) variables form))))

    spelt_conds : (ps : List Param) → All (IsParamOf count) ps → FitParams names ps → (cs : CondTrees) → AreCondsOf count ps cs → BindFree names ps cs → AllSpelt names (conds_words names ps cs) (AreCondForms names ps cs)
    spelt_conds ps known free tree.none h b = nothing_spelt (no_forms ps)
    spelt_conds ps known free (tree.more c cs) h b = one_first (spelt_cond ps known free c h.0 b.0) (λ t form. all_last (spelt_conds ps known free cs h.1 b.1) (λ ts forms. more_forms ps c cs t ts form forms))

  -- ---- effects with their conditions, and for each choice of a variable

  when_built : (ps : List Param) (c : Cond) (es : List Effect) (l : Lexeme) (t : Nested) (ts : Nesteds) → l.mark ≡ mark.When → IsCondForm names ps (cond_tree c) t → AfterWord mark.And (AreForms (IsEffectForm names ps) es) ts → IsGuardedForm names ps (When c es) (group (more (word l) (more t (more (group ts) none))))
  when_built ps c es l t _ w form (after_word m ts and forms) = when_form c es l m t ts w form and forms

  spread_built : (ps qs : List Param) (gs : List Guarded) (l : Lexeme) (vs ts : Nesteds) → l.mark ≡ mark.Forall → AreParamForms names qs vs → AfterWord mark.And (AreForms (IsGuardedForm names (ps ++ qs)) gs) ts → IsSpreadForm names ps (ForAll qs gs) (group (more (word l) (more (group vs) (more (group ts) none))))
  spread_built ps qs gs l vs _ w variables (after_word m ts and forms) = spread_form qs gs l m vs ts w variables and forms

  spelt_guarded : (ps : List Param) → All (IsParamOf count) ps → FitParams names ps → (room : ℕ) (g : Guarded) → IsGuardedOf count ps g → FitsGuarded names room g → Spelt names (guarded_words names ps g) (IsGuardedForm names ps g)
  spelt_guarded ps known free _ _ h (fits_plain room e fit) = one_as (spelt_effect ps known free e h) (λ t form. plain_form e t form)
  spelt_guarded ps known free _ _ h (fits_when room c es fit fits) =
      group_spelt (word_first (codes "when") class.Name refl refl (λ l is.
      one_first (spelt_cond ps known free (cond_tree c) h.0 (fits_free names (suc room) ps (cond_tree c) fit)) (λ t held.
      group_last (spelt_and (spelt_each names (IsEffectOf count (length ps)) (effect_words names ps) (IsEffectForm names ps) (spelt_effect ps known free) es h.1)) (λ ts body.
      when_built ps c es l t ts (is.mark class.Name refl) held body))))

  pub spelt_spread : (ps : List Param) → All (IsParamOf count) ps → FitParams names ps → (room : ℕ) (s : Spread) → IsSpreadOf count ps s → FitsSpread names room s → Spelt names (spread_words names ps s) (IsSpreadForm names ps s)
  spelt_spread ps known free _ _ h (fits_once room g fit) = one_as (spelt_guarded ps known free room g h fit) (λ t form. once_form g t form)
  spelt_spread ps known free _ _ h (fits_for_each room qs gs own fits) =
      let R : Guarded → Type 0 = λ g. IsGuardedOf count (ps ++ qs) g × FitsGuarded names room g in
      group_spelt (word_first (codes "forall") class.Name refl refl (λ l is.
      group_first (spelt_params qs h.0 own) (λ vs variables.
      group_last (spelt_and (spelt_each names R (guarded_words names (ps ++ qs)) (IsGuardedForm names (ps ++ qs)) (λ g r. spelt_guarded (ps ++ qs) (All-append (IsParamOf count) ps qs known h.0) (both_free ps qs free own) room g r.0 r.1) gs (λ k g lt. (h.1 k g lt, fits k g lt)))) (λ ts body.
      spread_built ps qs gs l vs ts (is.mark class.Name refl) variables body))))
