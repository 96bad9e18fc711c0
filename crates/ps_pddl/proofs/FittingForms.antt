-- The nested lists of a canonical text are of the grammar, where the domain fits.
use Rattle.std.proofs.Common.{◌≡◌, ℕ, suc, true, false, List, ◌++◌, refl, ap, ◌∙◌}
use Rattle.std.specs.List.{All}
use Rattle.std.proofs.lemmas.List.Elements.{All-head, All-tail}
use Rattle.ps_world.specs.Names.{Table, name_text}
use Rattle.ps_world.specs.Trees.{ExprTree, CondTree, CondTrees}
use Rattle.ps_world.specs.ExprViews.{expr_tree}
use Rattle.ps_world.specs.CondViews.{cond_tree}
use Rattle.ps_world.specs.declared.names.Name.{Name}
use Rattle.ps_world.specs.declared.schemas.Term.{Term}
use Rattle.ps_world.specs.declared.schemas.Term.TheVariants.{Var, Const}
use Rattle.ps_world.specs.declared.schemas.Lifted.{Lifted}
use Rattle.ps_world.specs.declared.expressions.Op.{Op}
use Rattle.ps_world.specs.declared.expressions.Op.TheVariants as op
use Rattle.ps_world.specs.declared.conditions.Rel.{Rel}
use Rattle.ps_world.specs.declared.conditions.Rel.TheVariants as rel
use Rattle.ps_world.specs.declared.actions.NumOp.{NumOp}
use Rattle.ps_world.specs.declared.actions.NumOp.TheVariants as num_op
use Rattle.ps_world.specs.declared.actions.Effect.{Effect}
use Rattle.ps_world.specs.declared.actions.Guarded.{Guarded}
use Rattle.ps_world.specs.declared.actions.Spread.{Spread}
use Rattle.ps_world.specs.declared.actions.ActionDef.{ActionDef}
use Rattle.ps_world.specs.declared.domains.Param.{Param}
use Rattle.ps_world.specs.declared.domains.Decl.{Decl}
use Rattle.ps_world.specs.declared.domains.Domain.{Domain}
use Rattle.ps_text.specs.Names.{folded}
use Rattle.ps_grammar.specs.Marks.{is_name, is_change, is_fact_name, is_predicate_name}
use Rattle.ps_grammar.specs.Symbols.{has_when, none_seen}
use Rattle.ps_grammar.specs.declared.marks.Mark.TheVariants as mark
use Rattle.ps_grammar.specs.declared.symbols.Reach.{Reach}
use Rattle.ps_grammar.specs.declared.symbols.Reach.TheVariants as the
use Rattle.ps_grammar.specs.declared.symbols.Seen.{Seen}
use Rattle.ps_grammar.specs.Marks.{is_term}
use Rattle.ps_lists.specs.Conditions.{is_operator, is_relation}
use Rattle.ps_lists.specs.Conditions as written
use Rattle.ps_lists.specs.Grammar.{AreTerms, IsAtom, IsValue, IsCondition, AreConditions, AreParts, IsEffect, IsOneEffect, AreEffectsOf, AreChanges, ArePredicates, AreFunctions, AreSections, IsText}
use Rattle.ps_lists.specs.TypedLists.{IsTypedList, is_variable}
use Rattle.ps_lists.specs.TypedLists as list_of_names
use Rattle.ps_lists.specs.Grammar as grammar
use Rattle.ps_lists.specs.Lexemes.{fixed_names}
use Rattle.ps_lists.specs.Nested.{Nested, Nesteds, more}
use Rattle.ps_lists.specs.declared.lexemes.Lexeme.{Lexeme}
use Rattle.ps_pddl.proofs.CanonicalForms.{name_mark, op_mark, rel_mark, num_op_mark, joined, IsNamed, IsTermWord, AreTermForms, no_terms, more_terms, IsLiftedForm, lifted, IsExprForm, a_number, a_value, a_negation, an_operation, IsCondForm, all_form, any_form, not_form, imply_form, fact_form, same_form, comparison_form, some_form, each_form, AreCondForms, no_forms, more_forms, timed, AreForms, no_items, more_items, IsStartCond, IsOverCond, IsEndCond, AreConditionParts, condition_parts, IsEffectForm, an_addition, a_deletion, a_change, IsGuardedForm, plain_form, when_form, IsSpreadForm, once_form, spread_form, IsStartEffect, IsEndEffect, AreEffectParts, effect_parts, AreTypedForms, no_typed, more_typed, AreParamForms, no_params, more_params, IsDeclForm, decl_form, IsActionForm, action_form, IsSectionForm, no_section, section, AreSectionForms, sections, IsDomainForm, domain_form}
use Rattle.ps_pddl.proofs.Fits.{FitsExpr, fits_number, fits_value, fits_negation, fits_operation, FitsCond, fits_all, fits_any, fits_not, fits_implied, fits_some, fits_each, fits_fact, fits_same, fits_comparison, FitConds, fit_none, fit_more, FitsEffect, fits_addition, fits_deletion, fits_change, FitsGuarded, fits_plain, fits_when, FitsSpread, fits_once, fits_for_each, FitsAction, FitsPredicate, FitsDomain}
use Rattle.ps_pddl.proofs.NameMarks.{mark_in-all, name_mark-is_name}

-- ---- marks

op_mark-is_operator : (o : Op) → is_operator (op_mark o) ≡ true
op_mark-is_operator op.Add = refl
op_mark-is_operator op.Sub = refl
op_mark-is_operator op.Mul = refl
op_mark-is_operator op.Div = refl

rel_mark-is_relation : (r : Rel) → is_relation (rel_mark r) ≡ true
rel_mark-is_relation rel.Lt = refl
rel_mark-is_relation rel.Le = refl
rel_mark-is_relation rel.Eq = refl
rel_mark-is_relation rel.Ge = refl
rel_mark-is_relation rel.Gt = refl

num_op_mark-is_change : (how : NumOp) → is_change (num_op_mark how) ≡ true
num_op_mark-is_change num_op.Assign = refl
num_op_mark-is_change num_op.Increase = refl
num_op_mark-is_change num_op.Decrease = refl
num_op_mark-is_change num_op.ScaleUp = refl
num_op_mark-is_change num_op.ScaleDown = refl

module _ (names : Table) where
  named_word : (n : Name) (l : Lexeme) → IsNamed names n l → is_name l.mark ≡ true
  named_word n l h = ap is_name h.mark ∙ name_mark-is_name names n

  -- ---- terms and values

  term_word : (ps : List Param) (t : Term) (l : Lexeme) → IsTermWord names ps t l → is_term l.mark ≡ true
  term_word ps (Var i) l h = ap is_term h.mark
  term_word ps (Const n) l h = ap is_term h.mark ∙ mark_in-all is_term fixed_names mark.Name (folded (name_text names n)) refl refl

  terms_grammatical : (ps : List Param) (ts : List Term) (us : Nesteds) → AreTermForms names ps ts us → AreTerms us
  terms_grammatical ps _ _ no_terms = written.no_argument
  terms_grammatical ps _ _ (more_terms t ts l us h r) = written.one_argument l us (term_word ps t l h) (terms_grammatical ps ts us r)

  lifted_grammatical : (ps : List Param) (room : ℕ) (f : Lifted) (t : Nested) → IsLiftedForm names ps f t → IsAtom (suc room) t
  lifted_grammatical ps room _ _ (lifted f l us h r) = written.atom room l us (named_word f.head l h) (terms_grammatical ps f.terms us r) tt

  value_grammatical : (ps : List Param) (room : ℕ) (x : ExprTree) (t : Nested) → FitsExpr room x → IsExprForm names ps x t → IsValue room t
  value_grammatical ps _ _ _ (fits_number room n) (a_number _ l m e) = written.a_number room l m
  value_grammatical ps _ _ _ (fits_value room f) (a_value _ t h) = written.an_atom (suc room) t (lifted_grammatical ps room f t h)
  value_grammatical ps _ _ _ (fits_negation room x fit) (a_negation _ l t m h) = written.negation room l t m (value_grammatical ps room x t fit h)
  value_grammatical ps _ _ _ (fits_operation room o x y fit also) (an_operation _ _ _ l t u m h k) =
      written.operation room l t u (ap is_operator m ∙ op_mark-is_operator o) (value_grammatical ps room x t fit h) (value_grammatical ps room y u also k)

  -- ---- variables

  params_grammatical : (ps : List Param) (ts : Nesteds) → AreParamForms names ps ts → IsTypedList is_variable ts
  params_grammatical _ _ no_params = list_of_names.no_name is_variable
  params_grammatical _ _ (more_params p ps l m k ts h e t r) =
      list_of_names.first_name is_variable l _ (ap is_variable h.mark) (list_of_names.type_name is_variable m k ts e (named_word p.kind k t) (params_grammatical ps ts r))

  -- ---- conditions

  -- (NAME TERM*) with such a name
  fact_grammatical : (ps : List Param) (room : ℕ) (f : Lifted) (t : Nested) → is_fact_name (name_mark names f.head) ≡ true → IsLiftedForm names ps f t → IsCondition (suc room) t
  fact_grammatical ps room _ _ fit (lifted f l us h r) = written.a_fact room l us (ap is_fact_name h.mark ∙ fit) (terms_grammatical ps f.terms us r) tt

  mutual
    condition_grammatical : (ps : List Param) (room : ℕ) (c : CondTree) (t : Nested) → FitsCond names room c → IsCondForm names ps c t → IsCondition room t
    condition_grammatical ps _ _ _ (fits_all room cs fit) (all_form _ _ l ts m h) = written.all_of room l ts m (conditions_grammatical ps room cs ts fit h)
    condition_grammatical ps _ _ _ (fits_not room c fit) (not_form _ _ l t m h) = written.not_so room l t m (condition_grammatical ps room c t fit h)
    condition_grammatical ps _ _ _ (fits_any room cs fit) (any_form _ _ l ts m h) = written.any_of room l ts m (conditions_grammatical ps room cs ts fit h)
    condition_grammatical ps _ _ _ (fits_implied room a b fit also) (imply_form _ _ _ l t u m h k) =
        written.implication room l t u m (condition_grammatical ps room a t fit h) (condition_grammatical ps room b u also k)
    condition_grammatical ps _ _ _ (fits_some room qs c free fit) (some_form _ _ _ l vs t m v h) =
        written.some_choice room l vs t m (params_grammatical qs vs v) (condition_grammatical (ps ++ qs) room c t fit h)
    condition_grammatical ps _ _ _ (fits_each room qs c free fit) (each_form _ _ _ l vs t m v h) =
        written.each_choice room l vs t m (params_grammatical qs vs v) (condition_grammatical (ps ++ qs) room c t fit h)
    condition_grammatical ps _ _ _ (fits_fact room f fit) (fact_form _ _ t h) = fact_grammatical ps room f t fit h
    condition_grammatical ps _ _ _ (fits_same room a b) (same_form _ _ _ l m n e h k) = written.same room l m n e (term_word ps a m h) (term_word ps b n k)
    condition_grammatical ps _ _ _ (fits_comparison room r x y fit also) (comparison_form _ _ _ _ l t u m h k) =
        written.comparison room l t u (ap is_relation m ∙ rel_mark-is_relation r) (value_grammatical ps room x t fit h) (value_grammatical ps room y u also k)

    conditions_grammatical : (ps : List Param) (room : ℕ) (cs : CondTrees) (ts : Nesteds) → FitConds names room cs → AreCondForms names ps cs ts → AreConditions room ts
    conditions_grammatical ps _ _ _ (fit_none room) (no_forms _) = written.no_condition room
    conditions_grammatical ps _ _ _ (fit_more room c cs fit fits) (more_forms _ _ _ t ts h k) =
        written.one_condition room t ts (condition_grammatical ps room c t fit h) (conditions_grammatical ps room cs ts fits k)

  parts_joined : (room : ℕ) (ts us : Nesteds) → AreParts room ts → AreParts room us → AreParts room (joined ts us)
  parts_joined _ _ us (grammar.no_part room) k = k
  parts_joined _ _ us (grammar.one_part room t ts h hs) k = grammar.one_part room t (joined ts us) h (parts_joined room ts us hs k)

  starts_grammatical : (ps : List Param) (room : ℕ) (cs : List CondTree) (ts : Nesteds) → All (FitsCond names room) cs → AreForms (IsStartCond names ps) cs ts → AreParts (suc room) ts
  starts_grammatical ps room _ _ fit no_items = grammar.no_part (suc room)
  starts_grammatical ps room _ _ fit (more_items c cs _ ts (timed l m t first second h) hs) =
      grammar.one_part (suc room) _ ts (grammar.timed_part room _ (grammar.at_moment room l m t first (ap grammar.is_moment second) (condition_grammatical ps room c t (All-head (FitsCond names room) c cs fit) h)))
      (starts_grammatical ps room cs ts (All-tail (FitsCond names room) c cs fit) hs)

  overs_grammatical : (ps : List Param) (room : ℕ) (cs : List CondTree) (ts : Nesteds) → All (FitsCond names room) cs → AreForms (IsOverCond names ps) cs ts → AreParts (suc room) ts
  overs_grammatical ps room _ _ fit no_items = grammar.no_part (suc room)
  overs_grammatical ps room _ _ fit (more_items c cs _ ts (timed l m t first second h) hs) =
      grammar.one_part (suc room) _ ts (grammar.timed_part room _ (grammar.over_all room l m t first second (condition_grammatical ps room c t (All-head (FitsCond names room) c cs fit) h)))
      (overs_grammatical ps room cs ts (All-tail (FitsCond names room) c cs fit) hs)

  ends_grammatical : (ps : List Param) (room : ℕ) (cs : List CondTree) (ts : Nesteds) → All (FitsCond names room) cs → AreForms (IsEndCond names ps) cs ts → AreParts (suc room) ts
  ends_grammatical ps room _ _ fit no_items = grammar.no_part (suc room)
  ends_grammatical ps room _ _ fit (more_items c cs _ ts (timed l m t first second h) hs) =
      grammar.one_part (suc room) _ ts (grammar.timed_part room _ (grammar.at_moment room l m t first (ap grammar.is_moment second) (condition_grammatical ps room c t (All-head (FitsCond names room) c cs fit) h)))
      (ends_grammatical ps room cs ts (All-tail (FitsCond names room) c cs fit) hs)

  condition_parts_grammatical : (a : ActionDef) (ts : Nesteds) → FitsAction names a → AreConditionParts names a ts → AreParts 61 ts
  condition_parts_grammatical a _ fit (condition_parts starts overs ends s o e) =
      parts_joined 61 starts (joined overs ends) (starts_grammatical a.params 60 a.conditions.at_start starts fit.start s)
      (parts_joined 61 overs ends (overs_grammatical a.params 60 a.conditions.over_all overs fit.over o) (ends_grammatical a.params 60 a.conditions.at_end ends fit.end e))

  -- ---- effects

  module _ (reach : Reach) (ps : List Param) where
    addition_grammatical : (room : ℕ) (f : Lifted) (t : Nested) → is_predicate_name (name_mark names f.head) ≡ true → IsLiftedForm names ps f t → IsOneEffect reach (suc room) t
    addition_grammatical room _ _ fit (lifted f l us h r) = grammar.addition reach room l us (ap is_predicate_name h.mark ∙ fit) (terms_grammatical ps f.terms us r)

    flat_grammatical : (room : ℕ) (e : Effect) (t : Nested) → FitsEffect names room e → IsEffectForm names ps e t → IsOneEffect reach room t
    flat_grammatical _ _ _ (fits_addition room f fit) (an_addition _ t h) = addition_grammatical room f t fit h
    flat_grammatical _ _ _ (fits_deletion room f) (a_deletion _ l t m h) = grammar.deletion reach (suc room) l t m (lifted_grammatical ps room f t h)
    flat_grammatical _ _ _ (fits_change room how f x fit) (a_change _ _ _ l t u m h k) =
        grammar.change reach (suc room) l t u (ap is_change m ∙ num_op_mark-is_change how) (lifted_grammatical ps room f t h) (value_grammatical ps (suc room) (expr_tree x) u fit k)

  -- effects, each of which is one
  list_grammatical : {A : Type 0} (reach : Reach) (room : ℕ) (P : A → Nested → Type 0) (Q : A → Type 0) → ((x : A) (t : Nested) → Q x → P x t → IsOneEffect reach room t) → (xs : List A) (ts : Nesteds) → All Q xs → AreForms P xs ts → AreEffectsOf reach room ts
  list_grammatical reach room P Q each _ _ fit no_items = grammar.no_effect reach room
  list_grammatical reach room P Q each _ _ fit (more_items x xs t ts h hs) =
      grammar.one_effect reach room t ts (grammar.single reach room t (each x t (All-head Q x xs fit) h)) (list_grammatical reach room P Q each xs ts (All-tail Q x xs fit) hs)

  guarded_grammatical : (reach : Reach) → has_when reach ≡ true → (ps : List Param) (room : ℕ) (g : Guarded) (t : Nested) → FitsGuarded names room g → IsGuardedForm names ps g t → IsOneEffect reach room t
  guarded_grammatical reach has ps _ _ _ (fits_plain room e fit) (plain_form _ t h) = flat_grammatical reach ps room e t fit h
  guarded_grammatical reach has ps _ _ _ (fits_when room c es fit fits) (when_form _ _ l m t ts is h and hs) =
      grammar.conditional reach (suc room) l t _ has is (condition_grammatical ps (suc room) (cond_tree c) t fit h)
      (grammar.listed_body the.Plain room m ts and (list_grammatical the.Plain room (IsEffectForm names ps) (FitsEffect names room) (flat_grammatical the.Plain ps room) es ts fits hs))

  spread_grammatical : (ps : List Param) (room : ℕ) (s : Spread) (t : Nested) → FitsSpread names room s → IsSpreadForm names ps s t → IsOneEffect the.Spread room t
  spread_grammatical ps _ _ _ (fits_once room g fit) (once_form _ t h) = guarded_grammatical the.Spread refl ps room g t fit h
  spread_grammatical ps _ _ _ (fits_for_each room qs gs free fits) (spread_form _ _ l m vs ts is variables and hs) =
      grammar.for_each the.Spread (suc room) l vs _ refl is (params_grammatical qs vs variables)
      (grammar.listed_body the.Guarded room m ts and (list_grammatical the.Guarded room (IsGuardedForm names (ps ++ qs)) (FitsGuarded names room) (guarded_grammatical the.Guarded refl (ps ++ qs) room) gs ts fits hs))

  effect_grammatical : (ps : List Param) (room : ℕ) (s : Spread) (t : Nested) → FitsSpread names room s → IsSpreadForm names ps s t → IsEffect room t
  effect_grammatical ps room s t fit h = grammar.single the.Spread room t (spread_grammatical ps room s t fit h)

  changes_joined : (room : ℕ) (ts us : Nesteds) → AreChanges room ts → AreChanges room us → AreChanges room (joined ts us)
  changes_joined _ _ us (grammar.no_change room) k = k
  changes_joined _ _ us (grammar.one_change room t ts h hs) k = grammar.one_change room t (joined ts us) h (changes_joined room ts us hs k)

  start_effects_grammatical : (ps : List Param) (room : ℕ) (es : List Spread) (ts : Nesteds) → All (FitsSpread names room) es → AreForms (IsStartEffect names ps) es ts → AreChanges (suc room) ts
  start_effects_grammatical ps room _ _ fit no_items = grammar.no_change (suc room)
  start_effects_grammatical ps room _ _ fit (more_items e es _ ts (timed l m t first second h) hs) =
      grammar.one_change (suc room) _ ts (grammar.timed_change room _ (grammar.effect_at room l m t first (ap grammar.is_moment second) (effect_grammatical ps room e t (All-head (FitsSpread names room) e es fit) h)))
      (start_effects_grammatical ps room es ts (All-tail (FitsSpread names room) e es fit) hs)

  end_effects_grammatical : (ps : List Param) (room : ℕ) (es : List Spread) (ts : Nesteds) → All (FitsSpread names room) es → AreForms (IsEndEffect names ps) es ts → AreChanges (suc room) ts
  end_effects_grammatical ps room _ _ fit no_items = grammar.no_change (suc room)
  end_effects_grammatical ps room _ _ fit (more_items e es _ ts (timed l m t first second h) hs) =
      grammar.one_change (suc room) _ ts (grammar.timed_change room _ (grammar.effect_at room l m t first (ap grammar.is_moment second) (effect_grammatical ps room e t (All-head (FitsSpread names room) e es fit) h)))
      (end_effects_grammatical ps room es ts (All-tail (FitsSpread names room) e es fit) hs)

  effect_parts_grammatical : (a : ActionDef) (ts : Nesteds) → FitsAction names a → AreEffectParts names a ts → AreChanges 61 ts
  effect_parts_grammatical a _ fit (effect_parts starts ends s e) =
      changes_joined 61 starts ends (start_effects_grammatical a.params 60 a.effects.at_start starts fit.at_start s) (end_effects_grammatical a.params 60 a.effects.at_end ends fit.at_end e)

  -- ---- lists of names

  typed_grammatical : (ps : List Param) (ts : Nesteds) → AreTypedForms names ps ts → IsTypedList is_name ts
  typed_grammatical _ _ no_typed = list_of_names.no_name is_name
  typed_grammatical _ _ (more_typed p ps l m k ts h e t r) =
      list_of_names.first_name is_name l _ (named_word p.name l h) (list_of_names.type_name is_name m k ts e (named_word p.kind k t) (typed_grammatical ps ts r))

  predicates_grammatical : (decls : List Decl) (ts : Nesteds) → All (FitsPredicate names) decls → AreForms (IsDeclForm names) decls ts → ArePredicates ts
  predicates_grammatical _ _ fit no_items = grammar.no_predicate
  predicates_grammatical _ _ fit (more_items _ decls _ ts (decl_form decl l us h k) hs) =
      grammar.one_predicate _ ts (grammar.decl is_predicate_name l us (ap is_predicate_name h.mark ∙ (All-head (FitsPredicate names) decl decls fit).head) (params_grammatical decl.params us k))
      (predicates_grammatical decls ts (All-tail (FitsPredicate names) decl decls fit) hs)

  functions_grammatical : (decls : List Decl) (ts : Nesteds) → AreForms (IsDeclForm names) decls ts → AreFunctions ts
  functions_grammatical _ _ no_items = grammar.no_function
  functions_grammatical _ _ (more_items _ decls _ ts (decl_form decl l us h k) hs) =
      grammar.one_function _ ts (grammar.decl is_name l us (named_word decl.name l h) (params_grammatical decl.params us k)) (functions_grammatical decls ts hs)

  -- ---- actions and sections

  actions_grammatical : (actions : List ActionDef) (ts : Nesteds) → All (FitsAction names) actions → AreForms (IsActionForm names) actions ts → (seen : Seen) → AreSections seen ts
  actions_grammatical _ _ fit no_items seen = grammar.no_section seen
  actions_grammatical _ _ fit (more_items _ actions _ ts (action_form a k n p d e q c f g h ps cs es x durative name parameters params duration equal asked time condition and conditions effect also effects) hs) seen =
      let fits = All-head (FitsAction names) a actions fit in
      grammar.action seen k _ ts durative
      (grammar.action_body 62 n p d ps _ _ (named_word a.name n name) parameters (params_grammatical a.params ps params) duration
      (grammar.duration 61 e q x equal asked (value_grammatical a.params 61 (expr_tree a.duration) x fits.duration time))
      (grammar.both 62 c g _ _ condition (grammar.listed_condition 61 f cs and (condition_parts_grammatical a cs fits conditions)) effect (grammar.listed_effect 61 h es also (effect_parts_grammatical a es fits effects))))
      (actions_grammatical actions ts (All-tail (FitsAction names) a actions fit) hs seen)

  with_functions : (fs own rest : Nesteds) → AreFunctions fs → IsSectionForm mark.Functions fs own → ((seen : Seen) → AreSections seen rest) → (seen : Seen) → seen.functions ≡ false → AreSections seen (joined own rest)
  with_functions _ _ rest h no_section k seen new = k seen
  with_functions _ _ rest h (section l t ts m) k seen new = grammar.functions seen l (more t ts) rest m new h (k (record seen { functions = true }))

  with_predicates : (ps own rest : Nesteds) → ArePredicates ps → IsSectionForm mark.Predicates ps own → ((seen : Seen) → seen.functions ≡ false → AreSections seen rest) → (seen : Seen) → seen.predicates ≡ false → seen.functions ≡ false → AreSections seen (joined own rest)
  with_predicates _ _ rest h no_section k seen new f = k seen f
  with_predicates _ _ rest h (section l t ts m) k seen new f = grammar.predicates seen l (more t ts) rest m new h (k (record seen { predicates = true }) f)

  with_constants : (cs own rest : Nesteds) → IsTypedList is_name cs → IsSectionForm mark.Constants cs own → ((seen : Seen) → seen.predicates ≡ false → seen.functions ≡ false → AreSections seen rest) → (seen : Seen) → seen.constants ≡ false → seen.predicates ≡ false → seen.functions ≡ false → AreSections seen (joined own rest)
  with_constants _ _ rest h no_section k seen new p f = k seen p f
  with_constants _ _ rest h (section l t ts m) k seen new p f = grammar.constants seen l (more t ts) rest m new h (k (record seen { constants = true }) p f)

  with_types : (types own rest : Nesteds) → IsTypedList is_name types → IsSectionForm mark.Types types own → ((seen : Seen) → seen.constants ≡ false → seen.predicates ≡ false → seen.functions ≡ false → AreSections seen rest) → AreSections none_seen (joined own rest)
  with_types _ _ rest h no_section k = k none_seen refl refl refl
  with_types _ _ rest h (section l t ts m) k = grammar.types none_seen l (more t ts) rest m refl h (k (record none_seen { types = true }) refl refl refl)

  sections_grammatical : (d : Domain) (ts : Nesteds) → FitsDomain names d → AreSectionForms names d ts → AreSections none_seen ts
  sections_grammatical d _ fit (sections ts cs ps fs acts types constants predicates functions t own_types c own_constants p own_predicates f own_functions a) =
      with_types ts types _ (typed_grammatical d.types ts t) own_types
      (with_constants cs constants _ (typed_grammatical d.constants cs c) own_constants
      (with_predicates ps predicates _ (predicates_grammatical d.predicates ps fit.predicates p) own_predicates
      (with_functions fs functions acts (functions_grammatical d.functions fs f) own_functions
      (actions_grammatical d.actions acts fit.actions a))))

-- a canonical text of a domain that fits is of the grammar
pub fitting_grammatical : (names : Table) (d : Domain) (ts : Nesteds) → FitsDomain names d → IsDomainForm names d ts → IsText ts
fitting_grammatical names d _ fit (domain_form k m n ts define domain name rest) =
    grammar.text k m n ts define domain (named_word names d.name n name) (sections_grammatical names d ts fit rest)
