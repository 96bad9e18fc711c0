-- The words of lists of names, of declarations, of actions and of a domain spell the forms of these.
use Rattle.std.proofs.Common.{◌≡◌, ℕ, true, Some, List, [], ◌∷◌, ◌++◌, map, codes, length, refl, sym, ap, ◌∙◌, subst, append_assoc}
use Rattle.std.proofs.lemmas.List.Elements.{All-head, All-tail}
use Rattle.std.proofs.lemmas.List.Folds.{flat_map-map}
use Rattle.std.specs.List.{All, flat_map}
use Rattle.ps_world.specs.Names.{Table, name_text}
use Rattle.ps_world.specs.Trees.{CondTree}
use Rattle.ps_world.specs.ExprViews.{expr_tree}
use Rattle.ps_world.specs.declared.actions.Spread.{Spread}
use Rattle.ps_world.specs.declared.actions.ActionDef.{ActionDef}
use Rattle.ps_world.specs.declared.domains.Param.{Param}
use Rattle.ps_world.specs.declared.domains.Decl.{Decl}
use Rattle.ps_world.specs.declared.domains.Domain.{Domain}
use Rattle.ps_text.specs.Names.{AreNames}
use Rattle.ps_text.specs.Tokens.{class_of}
use Rattle.ps_text.specs.declared.lexing.Class.TheVariants as class
use Rattle.ps_grammar.specs.declared.marks.Mark.{Mark}
use Rattle.ps_grammar.specs.declared.marks.Mark.TheVariants as mark
use Rattle.ps_lists.specs.Lexemes.{mark_of}
use Rattle.ps_lists.specs.Nested.{Nested, Nesteds, word, group, none, more}
use Rattle.ps_lists.specs.declared.lexemes.Lexeme.{Lexeme}
use Rattle.ps_print.specs.CanonicalWords.{grouped, typed_words, param_words, decl_words, expr_words, cond_words, spread_words, timed_words, conditions_words, effects_words, action_words, section_words, domain_words, IsParamOf, IsDeclOf, IsCondOf, IsSpreadOf, IsActionOf, IsDomainOf}
use Rattle.ps_pddl.proofs.CanonicalForms.{IsNamed, IsExprForm, IsCondForm, IsTimed, AreForms, joined, AreConditionParts, IsSpreadForm, AreEffectParts, AreTypedForms, AreParamForms, IsDeclForm, IsActionForm, IsSectionForm, AreSectionForms, IsDomainForm}
use Rattle.ps_pddl.proofs.CanonicalForms.IsTimed.{timed}
use Rattle.ps_pddl.proofs.CanonicalForms.AreForms.{no_items, more_items}
use Rattle.ps_pddl.proofs.CanonicalForms.AreConditionParts.{condition_parts}
use Rattle.ps_pddl.proofs.CanonicalForms.AreEffectParts.{effect_parts}
use Rattle.ps_pddl.proofs.CanonicalForms.AreTypedForms.{no_typed, more_typed}
use Rattle.ps_pddl.proofs.CanonicalForms.IsDeclForm.{decl_form}
use Rattle.ps_pddl.proofs.CanonicalForms.IsActionForm.{action_form}
use Rattle.ps_pddl.proofs.CanonicalForms.IsSectionForm.{no_section, section}
use Rattle.ps_pddl.proofs.CanonicalForms.AreSectionForms.{sections}
use Rattle.ps_pddl.proofs.CanonicalForms.IsDomainForm.{domain_form}
use Rattle.ps_pddl.proofs.Fits.{FitParams, FitsCond, FitsSpread, FitsAction, FitsDomain, fits_free}
use Rattle.ps_pddl.proofs.SpeltParts.{name_first, spelt_params, spelt_expr, spelt_cond, spelt_spread}
use Rattle.ps_pddl.proofs.SpeltWords.{Spelt, AllSpelt, AfterWord, after_word, is_plain, word_first, nothing_spelt, all_first, one_last, all_last, group_spelt, group_first, group_last, spelt_and, spelt_each}

both : {X : Type 0} (P Q : X → Type 0) (xs : List X) → All P xs → All Q xs → All (λ x. P x × Q x) xs
both P Q xs p q = λ k d h. (p k d h, q k d h)

-- ---- forms that stand within others

-- = ?duration X
data IsDurationForm (names : Table) (a : ActionDef) : Nesteds → Type 0 where
  duration_form : (e q : Lexeme) (x : Nested) → e.mark ≡ mark.Equal → q.mark ≡ mark.Duration → IsExprForm names a.params (expr_tree a.duration) x → IsDurationForm names a (more (word e) (more (word q) (more x none)))

action_built : (names : Table) (a : ActionDef) (k n p d c g : Lexeme) (ps ds cs es : Nesteds)
    → k.mark ≡ mark.DurativeAction → IsNamed names a.name n → p.mark ≡ mark.Parameters → AreParamForms names a.params ps
    → d.mark ≡ mark.DurationKey → IsDurationForm names a ds → c.mark ≡ mark.ConditionKey → AfterWord mark.And (AreConditionParts names a) cs → g.mark ≡ mark.EffectKey → AfterWord mark.And (AreEffectParts names a) es
    → IsActionForm names a (group (more (word k) (more (word n) (more (word p) (more (group ps) (more (word d) (more (group ds) (more (word c) (more (group cs) (more (word g) (more (group es) none)))))))))))
action_built names a k n p d c g ps _ _ _ mk mn mp fp md (duration_form e q x me mq fx) mc (after_word f cs mf fc) mg (after_word h es mh fe) =
    action_form a k n p d e q c f g h ps cs es x mk mn mp fp md me mq fx mc mf fc mg mh fe

-- a section of forms with a property, unless there are none
data IsSectionOf (key : Mark) (Q : Nesteds → Type 0) : Nesteds → Type 0 where
  section_of : (ts all : Nesteds) → Q ts → IsSectionForm key ts all → IsSectionOf key Q all

sections_built : (names : Table) (d : Domain) (types constants predicates functions acts : Nesteds)
    → IsSectionOf mark.Types (AreTypedForms names d.types) types → IsSectionOf mark.Constants (AreTypedForms names d.constants) constants
    → IsSectionOf mark.Predicates (AreForms (IsDeclForm names) d.predicates) predicates → IsSectionOf mark.Functions (AreForms (IsDeclForm names) d.functions) functions
    → AreForms (IsActionForm names) d.actions acts → AreSectionForms names d (joined types (joined constants (joined predicates (joined functions acts))))
sections_built names d types constants predicates functions acts (section_of ts _ ft st) (section_of cs _ fc sc) (section_of ps _ fp sp) (section_of fs _ ff sf) fa =
    sections ts cs ps fs acts types constants predicates functions ft st fc sc fp sp ff sf fa

-- domain NAME
data IsDomainHead (names : Table) (d : Domain) : Nesteds → Type 0 where
  domain_head : (m n : Lexeme) → m.mark ≡ mark.Domain → IsNamed names d.name n → IsDomainHead names d (more (word m) (more (word n) none))

domain_built : (names : Table) (d : Domain) (k : Lexeme) (hs ts : Nesteds) → k.mark ≡ mark.Define → IsDomainHead names d hs → AreSectionForms names d ts → IsDomainForm names d (more (group (more (word k) (more (group hs) ts))) none)
domain_built names d k _ ts mk (domain_head m n mm mn) f = domain_form k m n ts mk mm mn f

-- more than no forms
record Several (ts : Nesteds) : Type 0 where
  first : Nested
  rest : Nesteds
  is : more first rest ≡ ts

typed_several : (names : Table) (p : Param) (ps : List Param) (ts : Nesteds) → AreTypedForms names (p ∷ ps) ts → Several ts
typed_several names p ps _ (more_typed _ _ l m k ts il im ik rest) = record { first = word l; rest = more (word m) (more (word k) ts); is = refl }

forms_several : {X : Type 0} (P : X → Nested → Type 0) (x : X) (xs : List X) (ts : Nesteds) → AreForms P (x ∷ xs) ts → Several ts
forms_several P x xs _ (more_items _ _ t ts p rest) = record { first = t; rest = ts; is = refl }

section_built : (key : Mark) (Q : Nesteds → Type 0) (k : Lexeme) (ts : Nesteds) → k.mark ≡ key → Several ts → Q ts → IsSectionOf key Q (more (group (more (word k) ts)) none)
section_built key Q k ts mk s q =
    section_of ts _ q (subst (λ x. IsSectionForm key x (more (group (more (word k) x)) none)) s.is (section k s.first s.rest mk))

-- ---- words as those of one list

action_words-grouped : (k n p d c e : List ℕ) (ps ds cs es : List (List ℕ)) → grouped (k ∷ n ∷ p ∷ (ps ++ (d ∷ (ds ++ (c ∷ (cs ++ (e ∷ es))))))) ≡ codes "(" ∷ k ∷ n ∷ p ∷ (ps ++ (d ∷ (ds ++ (c ∷ (cs ++ (e ∷ (es ++ codes ")" ∷ [])))))))
action_words-grouped k n p d c e ps ds cs es = simp append_assoc

domain_words-grouped : (k m n : List ℕ) (ts cs ps fs acts : List (List ℕ)) → grouped (k ∷ (grouped (m ∷ n ∷ []) ++ (ts ++ (cs ++ (ps ++ (fs ++ acts)))))) ≡ codes "(" ∷ k ∷ codes "(" ∷ m ∷ n ∷ codes ")" ∷ (ts ++ (cs ++ (ps ++ (fs ++ (acts ++ codes ")" ∷ [])))))
domain_words-grouped k m n ts cs ps fs acts = simp append_assoc

module _ (names : Table) (good : AreNames names) where
  abbrev count : ℕ
  count = length names

  -- ---- lists

  spelt_typed : (ps : List Param) → All (IsParamOf count) ps → AllSpelt names (flat_map (λ part. part) (map (typed_words names) ps)) (AreTypedForms names ps)
  spelt_typed [] h = nothing_spelt no_typed
  spelt_typed (p ∷ ps) h =
      let here = All-head (IsParamOf count) p ps h in
      name_first names good p.name here.0 (λ l is.
      word_first (codes "-") class.Sign refl refl (λ m minus.
      name_first names good p.kind here.1 (λ k kind.
      all_last (spelt_typed ps (All-tail (IsParamOf count) p ps h)) (λ ts forms. more_typed p ps l m k ts is (minus.mark class.Sign refl) kind forms))))

  spelt_decl : (decl : Decl) → IsDeclOf count decl → FitParams names decl.params → Spelt names (decl_words names decl) (IsDeclForm names decl)
  spelt_decl decl h free = group_spelt (name_first names good decl.name h.0 (λ l is. all_last (spelt_params names good decl.params h.1 free) (λ ts forms. decl_form decl l ts is forms)))

  -- ---- parts with their times

  module _ (v w : List ℕ) (first second : Mark) (cv : class_of v ≡ Some class.Name) (cw : class_of w ≡ Some class.Name) (mv : mark_of class.Name v ≡ first) (mw : mark_of class.Name w ≡ second) (pv : is_plain first ≡ true) (pw : is_plain second ≡ true) where
    spelt_timed_one : {ws : List (List ℕ)} {Q : Nested → Type 0} → Spelt names ws Q → Spelt names (grouped (v ∷ w ∷ ws)) (IsTimed first second Q)
    spelt_timed_one s =
        group_spelt (word_first v class.Name cv (ap is_plain mv ∙ pv) (λ l is.
        word_first w class.Name cw (ap is_plain mw ∙ pw) (λ m also.
        one_last s (λ t form. timed l m t (is.mark class.Name cv ∙ mv) (also.mark class.Name cw ∙ mw) form))))

    spelt_timed : {X : Type 0} (R : X → Type 0) (f : X → List (List ℕ)) (Q : X → Nested → Type 0) → ((x : X) → R x → Spelt names (f x) (Q x)) → (xs : List X) → All R xs → AllSpelt names (timed_words (v ∷ w ∷ []) (map f xs)) (AreForms (λ x. IsTimed first second (Q x)) xs)
    spelt_timed R f Q each xs h =
        subst (λ ws. AllSpelt names ws (AreForms (λ x. IsTimed first second (Q x)) xs)) (sym (flat_map-map (λ part. grouped (v ∷ w ∷ part)) f xs))
        (spelt_each names R (λ x. grouped (v ∷ w ∷ f x)) (λ x. IsTimed first second (Q x)) (λ x r. spelt_timed_one (each x r)) xs h)

  -- ---- actions

  module _ (a : ActionDef) (h : IsActionOf count a) (fits : FitsAction names a) where
    spelt_conditions : AllSpelt names (conditions_words names a) (AreConditionParts names a)
    spelt_conditions =
        let R : CondTree → Type 0 = λ c. IsCondOf count a.params c × FitsCond names 60 c in
        let each : (c : CondTree) → R c → Spelt names (cond_words names a.params c) (IsCondForm names a.params c) =
        λ c r. spelt_cond names good a.params h.params fits.params c r.0 (fits_free names 60 a.params c r.1) in
        let are = both (IsCondOf count a.params) (FitsCond names 60) in
        all_first (spelt_timed (codes "at") (codes "start") mark.At mark.Start refl refl refl refl refl refl R (cond_words names a.params) (IsCondForm names a.params) each a.conditions.at_start (are a.conditions.at_start h.conditions_at_start fits.start)) (λ starts s.
        all_first (spelt_timed (codes "over") (codes "all") mark.Over mark.All refl refl refl refl refl refl R (cond_words names a.params) (IsCondForm names a.params) each a.conditions.over_all (are a.conditions.over_all h.conditions_over_all fits.over)) (λ overs o.
        all_last (spelt_timed (codes "at") (codes "end") mark.At mark.End refl refl refl refl refl refl R (cond_words names a.params) (IsCondForm names a.params) each a.conditions.at_end (are a.conditions.at_end h.conditions_at_end fits.end)) (λ ends e. condition_parts starts overs ends s o e)))

    spelt_effects : AllSpelt names (effects_words names a) (AreEffectParts names a)
    spelt_effects =
        let R : Spread → Type 0 = λ s. IsSpreadOf count a.params s × FitsSpread names 60 s in
        let each : (s : Spread) → R s → Spelt names (spread_words names a.params s) (IsSpreadForm names a.params s) =
        λ s r. spelt_spread names good a.params h.params fits.params 60 s r.0 r.1 in
        let are = both (IsSpreadOf count a.params) (FitsSpread names 60) in
        all_first (spelt_timed (codes "at") (codes "start") mark.At mark.Start refl refl refl refl refl refl R (spread_words names a.params) (IsSpreadForm names a.params) each a.effects.at_start (are a.effects.at_start h.effects_at_start fits.at_start)) (λ starts s.
        all_last (spelt_timed (codes "at") (codes "end") mark.At mark.End refl refl refl refl refl refl R (spread_words names a.params) (IsSpreadForm names a.params) each a.effects.at_end (are a.effects.at_end h.effects_at_end fits.at_end)) (λ ends e. effect_parts starts ends s e))

    spelt_duration : AllSpelt names (codes "=" ∷ codes "?duration" ∷ expr_words names a.params (expr_tree a.duration)) (IsDurationForm names a)
    spelt_duration =
        word_first (codes "=") class.Sign refl refl (λ e equal.
        word_first (codes "?duration") class.Variable refl refl (λ q duration.
        one_last (spelt_expr names good a.params h.params fits.params (expr_tree a.duration) h.duration) (λ x form. duration_form e q x (equal.mark class.Sign refl) (duration.mark class.Variable refl) form)))

    spelt_action : Spelt names (action_words names a) (IsActionForm names a)
    spelt_action =
        subst (λ ws. Spelt names ws (IsActionForm names a))
        (action_words-grouped (codes ":durative-action") (name_text names a.name) (codes ":parameters") (codes ":duration") (codes ":condition") (codes ":effect")
        (grouped (flat_map (param_words names) a.params)) (grouped (codes "=" ∷ codes "?duration" ∷ expr_words names a.params (expr_tree a.duration))) (grouped (codes "and" ∷ conditions_words names a)) (grouped (codes "and" ∷ effects_words names a)))
        (group_spelt
        (word_first (codes ":durative-action") class.Keyword refl refl (λ k action.
        name_first names good a.name h.name (λ n named.
        word_first (codes ":parameters") class.Keyword refl refl (λ p parameters.
        group_first (spelt_params names good a.params h.params fits.params) (λ ps forms.
        word_first (codes ":duration") class.Keyword refl refl (λ d duration.
        group_first spelt_duration (λ ds length.
        word_first (codes ":condition") class.Keyword refl refl (λ c condition.
        group_first (spelt_and spelt_conditions) (λ cs conditions.
        word_first (codes ":effect") class.Keyword refl refl (λ g effect.
        group_last (spelt_and spelt_effects) (λ es effects.
        action_built names a k n p d c g ps ds cs es (action.mark class.Keyword refl) named (parameters.mark class.Keyword refl) forms (duration.mark class.Keyword refl) length (condition.mark class.Keyword refl) conditions (effect.mark class.Keyword refl) effects))))))))))))

  -- ---- sections

  spelt_section : {X : Type 0} (f : X → List (List ℕ)) (Q : List X → Nesteds → Type 0) (key : List ℕ) (m : Mark) → class_of key ≡ Some class.Keyword → mark_of class.Keyword key ≡ m → is_plain m ≡ true
      → Q [] none → ((x : X) (xs : List X) (ts : Nesteds) → Q (x ∷ xs) ts → Several ts) → (xs : List X) → AllSpelt names (flat_map (λ part. part) (map f xs)) (Q xs) → AllSpelt names (section_words key (map f xs)) (IsSectionOf m (Q xs))
  spelt_section f Q key m c is p nil several [] s = nothing_spelt (section_of none none nil no_section)
  spelt_section f Q key m c is p nil several (x ∷ xs) s =
      group_last (spelt_key s) (λ ts q. q) where
        spelt_key : AllSpelt names (flat_map (λ part. part) (map f (x ∷ xs))) (Q (x ∷ xs)) → AllSpelt names (key ∷ flat_map (λ part. part) (map f (x ∷ xs))) (λ ts. IsSectionOf m (Q (x ∷ xs)) (more (group ts) none))
        spelt_key s = word_first key class.Keyword c (ap is_plain is ∙ p) (λ k one. all_last s (λ ts q. section_built m (Q (x ∷ xs)) k ts (one.mark class.Keyword c ∙ is) (several x xs ts q) q))

  spelt_typed_section : (key : List ℕ) (m : Mark) → class_of key ≡ Some class.Keyword → mark_of class.Keyword key ≡ m → is_plain m ≡ true → (ps : List Param) → All (IsParamOf count) ps → AllSpelt names (section_words key (map (typed_words names) ps)) (IsSectionOf m (AreTypedForms names ps))
  spelt_typed_section key m c is p ps h = spelt_section (typed_words names) (AreTypedForms names) key m c is p no_typed (typed_several names) ps (spelt_typed ps h)

  spelt_decl_section : (key : List ℕ) (m : Mark) → class_of key ≡ Some class.Keyword → mark_of class.Keyword key ≡ m → is_plain m ≡ true → (decls : List Decl) → All (IsDeclOf count) decls → All (λ decl. FitParams names decl.params) decls
      → AllSpelt names (section_words key (map (decl_words names) decls)) (IsSectionOf m (AreForms (IsDeclForm names) decls))
  spelt_decl_section key m c is p decls h free =
      let R : Decl → Type 0 = λ decl. IsDeclOf count decl × FitParams names decl.params in
      spelt_section (decl_words names) (AreForms (IsDeclForm names)) key m c is p no_items (forms_several (IsDeclForm names)) decls
      (subst (λ ws. AllSpelt names ws (AreForms (IsDeclForm names) decls)) (sym (flat_map-map (λ part. part) (decl_words names) decls))
      (spelt_each names R (decl_words names) (IsDeclForm names) (λ decl r. spelt_decl decl r.0 r.1) decls (both (IsDeclOf count) (λ decl. FitParams names decl.params) decls h free)))

  -- ---- a domain

  module _ (d : Domain) (h : IsDomainOf count d) (fits : FitsDomain names d) where
    spelt_actions : AllSpelt names (flat_map (action_words names) d.actions) (AreForms (IsActionForm names) d.actions)
    spelt_actions =
        let R : ActionDef → Type 0 = λ a. IsActionOf count a × FitsAction names a in
        spelt_each names R (action_words names) (IsActionForm names) (λ a r. spelt_action a r.0 r.1) d.actions (both (IsActionOf count) (FitsAction names) d.actions h.actions fits.actions)

    spelt_head : AllSpelt names (codes "domain" ∷ name_text names d.name ∷ []) (IsDomainHead names d)
    spelt_head =
        word_first (codes "domain") class.Name refl refl (λ m is.
        name_first names good d.name h.name (λ n named. nothing_spelt (domain_head m n (is.mark class.Name refl) named)))

    -- the words of a domain spell its form
    pub spelt_domain : AllSpelt names (domain_words names d) (IsDomainForm names d)
    spelt_domain =
        subst (λ ws. AllSpelt names ws (IsDomainForm names d))
        (domain_words-grouped (codes "define") (codes "domain") (name_text names d.name) (section_words (codes ":types") (map (typed_words names) d.types)) (section_words (codes ":constants") (map (typed_words names) d.constants))
        (section_words (codes ":predicates") (map (decl_words names) d.predicates)) (section_words (codes ":functions") (map (decl_words names) d.functions)) (flat_map (action_words names) d.actions))
        (one_last (group_spelt {P = λ t. IsDomainForm names d (more t none)}
        (word_first (codes "define") class.Name refl refl (λ k is.
        group_first spelt_head (λ hs head.
        all_first (spelt_typed_section (codes ":types") mark.Types refl refl refl d.types h.types) (λ types ft.
        all_first (spelt_typed_section (codes ":constants") mark.Constants refl refl refl d.constants h.constants) (λ constants fc.
        all_first (spelt_decl_section (codes ":predicates") mark.Predicates refl refl refl d.predicates h.predicates (λ j e lt. (fits.predicates j e lt).params)) (λ predicates fp.
        all_first (spelt_decl_section (codes ":functions") mark.Functions refl refl refl d.functions h.functions fits.functions) (λ functions ff.
        all_last spelt_actions (λ acts fa.
        domain_built names d k hs (joined types (joined constants (joined predicates (joined functions acts)))) (is.mark class.Name refl) head (sections_built names d types constants predicates functions acts ft fc fp ff fa)))))))))) (λ t form. form))
