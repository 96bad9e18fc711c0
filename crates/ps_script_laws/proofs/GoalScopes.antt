-- The variables of what is printed are in their scopes.
use Rattle.std.proofs.Common.{◌≡◌, ◌<◌, ◌≤◌, nat_le, ℕ, zero, suc, Bool, true, false, if◌then◌else◌, ◌||◌, List, [], ◌∷◌, ◌++◌, length, map, None, Ok, refl, sym, ap, ◌∙◌, subst, append_assoc, append-nil, arith}
use Rattle.std.specs.List.{All, list_any}
use Rattle.std.specs.Option.{option_or}
use Rattle.std.proofs.lemmas.Bool.{eq-eqb}
use Rattle.std.proofs.lemmas.Bool.Decides.{nat_tests}
use Rattle.std.proofs.lemmas.List.{length-append, length-map, map-append}
use Rattle.std.proofs.lemmas.List.Elements.{All-head, All-tail}
use Rattle.ps_world.specs.Names.{Table, same_name}
use Rattle.ps_world.specs.Trees.{ExprTree, CondTree, CondTrees}
use Rattle.ps_world.specs.declared.domains.Param.{Param}
use Rattle.ps_world.specs.declared.names.Name.{Name}
use Rattle.ps_world.specs.declared.schemas.Lifted.{Lifted}
use Rattle.ps_world.specs.declared.schemas.Term.{Term}
use Rattle.ps_world.specs.declared.schemas.Term.TheVariants.{Var, Const}
use Rattle.ps_world.specs.declared.expressions.Op.{Op}
use Rattle.ps_world.specs.declared.expressions.Op.TheVariants as op
use Rattle.ps_world.specs.declared.conditions.Rel.{Rel}
use Rattle.ps_world.specs.declared.conditions.Rel.TheVariants as rel
use Rattle.ps_text.proofs.Folds.{list_any-map}
use Rattle.ps_grammar.specs.Marks.{is, is_name}
use Rattle.ps_grammar.specs.declared.marks.Mark.TheVariants as mark
use Rattle.ps_lists.specs.Nested.{Nested, Nesteds, group, none}
use Rattle.ps_lists.specs.Places.{items_at}
use Rattle.ps_lists.specs.declared.lexemes.Lexeme.{Lexeme}
use Rattle.ps_print.specs.CanonicalWords.{AreCondsOf, IsCondOf, IsExprOf, IsLiftedOf, IsTermOf}
use Rattle.ps_script.specs.Scopes.{below, binds, loose, quantifies, stray, strays}
use Rattle.ps_pddl.specs.WellFormed.{AreApart}
use Rattle.ps_pddl.proofs.CanonicalForms.{AreCondForms, AreParamForms, AreTermForms, IsCondForm, IsExprForm, IsLiftedForm, IsTermWord, op_mark, param_name, rel_mark}
use Rattle.ps_pddl.proofs.CanonicalForms.AreCondForms.{no_forms, more_forms}
use Rattle.ps_pddl.proofs.CanonicalForms.AreParamForms.{no_params, more_params}
use Rattle.ps_pddl.proofs.CanonicalForms.AreTermForms.{no_terms, more_terms}
use Rattle.ps_pddl.proofs.CanonicalForms.IsCondForm.{all_form, any_form, not_form, imply_form, fact_form, same_form, comparison_form, some_form, each_form}
use Rattle.ps_pddl.proofs.CanonicalForms.IsExprForm.{a_number, a_value, a_negation, an_operation}
use Rattle.ps_pddl.proofs.CanonicalForms.IsLiftedForm.{lifted}
use Rattle.ps_pddl.proofs.MeanLists.{none_before}
use Rattle.ps_pddl.proofs.MeanMarks.{name-isnt}
use Rattle.ps_pddl.proofs.MeanTerms.{named-is_name}
use Rattle.ps_script_laws.specs.Sayable.{HasGoalHeads, HaveGoalHeads}

-- the names of variables in force
abbrev pub in_force : List Param → List Name
in_force ps = map (λ p. p.name) ps

-- ---- words

pub name_stays : (ns : List Name) (l : Lexeme) → is_name l.mark ≡ true → loose ns l ≡ None
name_stays ns l h = rw (name-isnt mark.Variable l.mark h refl) refl

or_true : (a b : Bool) → b ≡ true → (a || b) ≡ true
or_true true b e = refl
or_true false b e = e

-- a variable is among those in force
own_there : (ps : List Param) (i : ℕ) → i < length ps → list_any (same_name (param_name ps i)) (in_force ps) ≡ true
own_there [] i h = absurd (omega (arith, h))
own_there (p ∷ ps) zero h = rw (eq-eqb p.name.0 p.name.0 refl) refl
own_there (p ∷ ps) (suc i) h = or_true (same_name (param_name ps i) p.name) _ (own_there ps i (omega (arith, h)))

there : (before : List Param) (q : Param) (rest : List Param) → list_any (same_name q.name) (in_force (before ++ q ∷ rest)) ≡ true
there [] q rest = rw (eq-eqb q.name.0 q.name.0 refl) refl
there (p ∷ before) q rest = or_true (same_name q.name p.name) _ (there before q rest)

room_left : (n : ℕ) → n < 2 → nat_le 2 n ≡ false
room_left n h = grind (arith, nat_tests)

op_stays : (o : Op) → (quantifies (op_mark o) ≡ false) × (is mark.Variable (op_mark o) ≡ false)
op_stays op.Add = (refl, refl)
op_stays op.Sub = (refl, refl)
op_stays op.Mul = (refl, refl)
op_stays op.Div = (refl, refl)

rel_stays : (r : Rel) → (quantifies (rel_mark r) ≡ false) × (is mark.Variable (rel_mark r) ≡ false)
rel_stays rel.Lt = (refl, refl)
rel_stays rel.Le = (refl, refl)
rel_stays rel.Eq = (refl, refl)
rel_stays rel.Ge = (refl, refl)
rel_stays rel.Gt = (refl, refl)

-- a head without a list after it binds nothing, whatever it is
head_stays : (b : Bool) (ns : List Name) (l : Lexeme) (ts : Nesteds) → loose ns l ≡ None → items_at ts ≡ none → strays ns ts ≡ None → (if b then below (binds ns (items_at ts)) (λ ns. strays ns ts) else option_or (loose ns l) (strays ns ts)) ≡ None
head_stays true ns l ts own bare rest = rw bare rest
head_stays false ns l ts own bare rest = rw own rest

module _ (names : Table) (count : ℕ) where
  term_stays : (ps : List Param) (t : Term) (l : Lexeme) → IsTermOf count (length ps) t → IsTermWord names ps t l → loose (in_force ps) l ≡ None
  term_stays ps (Var i) l h w = rw (w.mark, w.name, own_there ps i h) refl
  term_stays ps (Const n) l h w = name_stays (in_force ps) l (named-is_name names n l w)

  terms_stay : (ps : List Param) (us : List Term) (ts : Nesteds) → All (IsTermOf count (length ps)) us → AreTermForms names ps us ts → strays (in_force ps) ts ≡ None
  terms_stay ps _ _ known no_terms = refl
  terms_stay ps _ _ known (more_terms u us l ts w rest) =
      rw (term_stays ps u l (All-head (IsTermOf count (length ps)) u us known) w) (terms_stay ps us ts (All-tail (IsTermOf count (length ps)) u us known) rest)

  no_list : (ps : List Param) (us : List Term) (ts : Nesteds) → AreTermForms names ps us ts → items_at ts ≡ none
  no_list ps _ _ no_terms = refl
  no_list ps _ _ (more_terms u us l ts w rest) = refl

  pub lifted_stays : (ps : List Param) (f : Lifted) (t : Nested) → IsLiftedOf count (length ps) f → IsLiftedForm names ps f t → stray (in_force ps) t ≡ None
  lifted_stays ps _ _ known (lifted f l ts w us) =
      head_stays (quantifies l.mark) (in_force ps) l ts (name_stays (in_force ps) l (named-is_name names f.head l w)) (no_list ps f.terms ts us) (terms_stay ps f.terms ts known.1 us)

  -- ---- values

  pub expr_stays : (ps : List Param) (x : ExprTree) (t : Nested) → IsExprOf count (length ps) x → IsExprForm names ps x t → stray (in_force ps) t ≡ None
  expr_stays ps _ _ known (a_number n l m e) = rw m refl
  expr_stays ps _ _ known (a_value f t k) = lifted_stays ps f t known k
  expr_stays ps _ _ known (a_negation x l t m k) = rw (m, expr_stays ps x t known k) refl
  expr_stays ps _ _ known (an_operation o x y l t u m j k) =
      rw (m, (op_stays o).0, (op_stays o).1, expr_stays ps x t known.0 j, expr_stays ps y u known.1 k) refl

  -- ---- variables

  -- those that a list binds are in force after those before
  binds-mean : (ps qs : List Param) (vs : Nesteds) → length (ps ++ qs) ≤ 2 → AreApart (λ p. p.name) (ps ++ qs) → AreParamForms names qs vs → binds (in_force ps) vs ≡ Ok (in_force (ps ++ qs))
  binds-mean ps _ _ few apart no_params = ap (λ xs. Ok (in_force xs)) (sym (append-nil ps))
  binds-mean ps _ _ few apart (more_params q qs l m k ts w e v rest) =
      let new : list_any (same_name q.name) (in_force ps) ≡ false = sym (list_any-map (λ p. p.name) (same_name q.name) ps) ∙ none_before (λ p. p.name) ps q qs apart in
      let room : nat_le 2 (length (in_force ps)) ≡ false = room_left (length (in_force ps)) (omega (arith, few, length-append ps (q ∷ qs), length-map ps (λ (p : Param). p.name))) in
      let assoc : (ps ++ q ∷ []) ++ qs ≡ ps ++ q ∷ qs = append_assoc ps (q ∷ []) qs in
      let same : in_force ps ++ q.name ∷ [] ≡ in_force (ps ++ q ∷ []) = sym (map-append (λ p. p.name) ps (q ∷ [])) in
      let later : binds (in_force (ps ++ q ∷ [])) ts ≡ Ok (in_force ((ps ++ q ∷ []) ++ qs)) = binds-mean (ps ++ q ∷ []) qs ts (rw assoc few) (rw assoc apart) rest in
      rw (w.mark, w.name, new, room, e, name-isnt mark.Variable k.mark (named-is_name names q.kind k v) refl, same, later, assoc) refl

  list_stays : (before qs : List Param) (vs : Nesteds) → AreParamForms names qs vs → strays (in_force (before ++ qs)) vs ≡ None
  list_stays before _ _ no_params = refl
  list_stays before _ _ (more_params q qs l m k ts w e v rest) =
      let later : strays (in_force ((before ++ q ∷ []) ++ qs)) ts ≡ None = list_stays (before ++ q ∷ []) qs ts rest in
      let here : strays (in_force (before ++ q ∷ qs)) ts ≡ None = subst (λ (ps : List Param). strays (in_force ps) ts ≡ None) (append_assoc before (q ∷ []) qs) later in
      rw (w.mark, w.name, there before q qs, e, name-isnt mark.Variable k.mark (named-is_name names q.kind k v) refl) here

  -- the list of a quantifier is a list of variables in force, and no quantifier
  group_stays : (ps qs : List Param) (vs : Nesteds) → AreParamForms names qs vs → stray (in_force (ps ++ qs)) (group vs) ≡ None
  group_stays ps _ _ no_params = refl
  group_stays ps _ _ (more_params q qs l m k ts w e v rest) =
      let all = list_stays ps (q ∷ qs) _ (more_params q qs l m k ts w e v rest) in
      rw w.mark (rw w.mark at all)

  -- ---- conditions

  mutual
    pub cond_stays : (ps : List Param) (c : CondTree) (t : Nested) → IsCondOf count ps c → HasGoalHeads names ps c → IsCondForm names ps c t → stray (in_force ps) t ≡ None
    cond_stays ps _ _ known heads (all_form _ cs l ts m k) = rw m (conds_stay ps cs ts known heads k)
    cond_stays ps _ _ known heads (any_form _ cs l ts m k) = rw m (conds_stay ps cs ts known.1 heads.1 k)
    cond_stays ps _ _ known heads (not_form _ c l t m k) = rw (m, cond_stays ps c t known heads k) refl
    cond_stays ps _ _ known heads (imply_form _ a b l t u m j k) = rw (m, cond_stays ps a t known.1.0 heads.1.0 j, cond_stays ps b u known.1.1 heads.1.1 k) refl
    cond_stays ps _ _ known heads (fact_form _ f t k) = lifted_stays ps f t known k
    cond_stays ps _ _ known heads (same_form _ a b l m n e v w) = rw (e, term_stays ps a m known.0 v, term_stays ps b n known.1 w) refl
    cond_stays ps _ _ known heads (comparison_form _ r x y l t u m j k) =
        rw (m, (rel_stays r).0, (rel_stays r).1, expr_stays ps x t known.0 j, expr_stays ps y u known.1 k) refl
    cond_stays ps _ _ known heads (some_form _ qs c l vs t m v k) =
        rw (m, binds-mean ps qs vs heads.0.few heads.0.apart v, group_stays ps qs vs v, cond_stays (ps ++ qs) c t known.1 heads.1 k) refl
    cond_stays ps _ _ known heads (each_form _ qs c l vs t m v k) =
        rw (m, binds-mean ps qs vs heads.0.few heads.0.apart v, group_stays ps qs vs v, cond_stays (ps ++ qs) c t known.1 heads.1 k) refl

    conds_stay : (ps : List Param) (cs : CondTrees) (ts : Nesteds) → AreCondsOf count ps cs → HaveGoalHeads names ps cs → AreCondForms names ps cs ts → strays (in_force ps) ts ≡ None
    conds_stay ps _ _ known heads (no_forms _) = refl
    conds_stay ps _ _ known heads (more_forms _ c cs t ts k rest) = rw (cond_stays ps c t known.0 heads.0 k) (conds_stay ps cs ts known.1 heads.1 rest)
