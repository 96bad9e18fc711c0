-- The words of conditions mean them.
use Rattle.std.proofs.Common.{◌≡◌, ◌≤◌, ◌+◌, ℕ, All, true, false, List, [], ◌∷◌, ◌++◌, Option, Some, None, Ok, length, refl, ap, subst, append_assoc, append-nil, arith}
use Rattle.std.proofs.lemmas.Bool.{eqb-true}
use Rattle.std.proofs.lemmas.List.{length-append}
use Rattle.std.proofs.lemmas.List.Elements.{All-drop, All-head, All-tail}
use Rattle.std.proofs.Math.Seq.{drop-append_seam}
use Rattle.ps_world.specs.CondViews.{cond_tree}
use Rattle.ps_world.specs.Knowledge.{is_type, predicate_of}
use Rattle.ps_world.specs.Leaves.{AllIn, AllInEach}
use Rattle.ps_world.specs.Names.{Table, same_name}
use Rattle.ps_world.specs.Trees.{ExprTree, CondTree, CondTrees, all_of, any_of, no, implied, holds, same, compares, is_a, for_some, for_all, cond_trees, list_of, list_of-cond_trees}
use Rattle.ps_world.specs.Trees as tree
use Rattle.ps_world.specs.declared.domains.Param.{Param}
use Rattle.ps_world.specs.declared.domains.Decl.{Decl}
use Rattle.ps_world.specs.declared.domains.Domain.{Domain}
use Rattle.ps_world.specs.declared.schemas.Term.{Term}
use Rattle.ps_world.specs.declared.schemas.Term.TheVariants.{Var, Const}
use Rattle.ps_world.specs.declared.schemas.Lifted.{Lifted}
use Rattle.ps_world.specs.declared.actions.ActionDef.{ActionDef}
use Rattle.ps_world.specs.declared.conditions.Cond.{Cond}
use Rattle.ps_world.specs.declared.conditions.Cond.TheVariants as cond
use Rattle.ps_world.specs.declared.conditions.Rel.{Rel}
use Rattle.ps_world.specs.declared.conditions.Rel.TheVariants.{Lt, Le, Eq, Ge, Gt}
use Rattle.ps_grammar.specs.Marks.{is, is_name, is_predicate_name}
use Rattle.ps_grammar.specs.declared.marks.Mark.TheVariants as mark
use Rattle.ps_lists.specs.Nested.{Nested, Nesteds, none, more}
use Rattle.ps_lists.specs.declared.lexemes.Lexeme.{Lexeme}
use Rattle.ps_pddl.specs.Conditions as part
use Rattle.ps_conditions.specs.Conditions as meant
use Rattle.ps_conditions.specs.Signs.{head_of, rel_of}
use Rattle.ps_conditions.specs.declared.signs.Head.TheVariants.{Plain}
use Rattle.ps_pddl.specs.Lists.{binding, listed}
use Rattle.ps_pddl.specs.declared.meaning.lists.Listing.TheVariants.{Bound}
use Rattle.ps_pddl.specs.Steps.{Read, reads}
use Rattle.ps_pddl.specs.Words.{bound, condition, most_in_force, scopes, words}
use Rattle.ps_pddl.specs.WellFormed.{AreApart, AreTyped, IsApplied, IsCond, IsExpr, IsFactOf, declared_leaves}
use Rattle.ps_world.specs.declared.actions.Conditions.{Conditions}
use Rattle.ps_pddl.proofs.CanonicalForms.{name_mark, rel_mark, joined, IsTermWord, IsExprForm, a_number, a_value, a_negation, an_operation, IsCondForm, all_form, any_form, not_form, imply_form, fact_form, same_form, comparison_form, some_form, each_form, AreCondForms, no_forms, more_forms, AreParamForms, timed, AreForms, no_items, more_items, IsStartCond, IsOverCond, IsEndCond}
use Rattle.ps_pddl.proofs.CanonicalForms as form
use Rattle.ps_pddl.proofs.MeanLists.{listed-means, params_listed}
use Rattle.ps_pddl.proofs.MeanMarks.{head_of-predicate, name-isnt, rel_of-name}
use Rattle.ps_pddl.proofs.MeanTerms.{TakeFew, found_all, named-is_name, resolved-means, fact-means, untree, expr_tree-untree, untree-expr_tree, value-means}
use Rattle.ps_pddl.proofs.SoundTerms.{acting}

-- ---- the condition of a tree

abbrev pub uncond : CondTree → Cond
uncond (all_of cs) = cond.And (list_of cs)
uncond (any_of cs) = cond.Or (list_of cs)
uncond (no c) = cond.Not c
uncond (implied a b) = cond.Imply a b
uncond (holds f) = cond.Holds f
uncond (same a b) = cond.Same a b
uncond (compares r x y) = cond.Cmp r x y
uncond (is_a t kind) = cond.IsA t kind
uncond (for_some ps c) = cond.ForSome ps c
uncond (for_all ps c) = cond.ForAll ps c

cond_trees-list_of : (cs : CondTrees) → cond_trees (list_of cs) ≡ cs
cond_trees-list_of tree.none = refl
cond_trees-list_of (tree.more c cs) = ap (λ more. tree.more c more) (cond_trees-list_of cs)

pub cond_tree-uncond : (c : CondTree) → cond_tree (uncond c) ≡ c
cond_tree-uncond (all_of cs) = ap all_of (cond_trees-list_of cs)
cond_tree-uncond (any_of cs) = ap any_of (cond_trees-list_of cs)
cond_tree-uncond (no c) = refl
cond_tree-uncond (implied a b) = refl
cond_tree-uncond (holds f) = refl
cond_tree-uncond (same a b) = refl
cond_tree-uncond (compares r x y) = refl
cond_tree-uncond (is_a t kind) = refl
cond_tree-uncond (for_some ps c) = refl
cond_tree-uncond (for_all ps c) = refl

pub uncond-cond_tree : (c : Cond) → uncond (cond_tree c) ≡ c
uncond-cond_tree (cond.And cs) = ap cond.And (list_of-cond_trees cs)
uncond-cond_tree (cond.Or cs) = ap cond.Or (list_of-cond_trees cs)
uncond-cond_tree (cond.Not c) = refl
uncond-cond_tree (cond.Imply a b) = refl
uncond-cond_tree (cond.Holds f) = refl
uncond-cond_tree (cond.Same s t) = refl
uncond-cond_tree (cond.Cmp r x y) = refl
uncond-cond_tree (cond.IsA t kind) = refl
uncond-cond_tree (cond.ForSome ps c) = refl
uncond-cond_tree (cond.ForAll ps c) = refl

-- ---- heads

pub rel_of-rel : (r : Rel) → rel_of (rel_mark r) ≡ Some r
rel_of-rel Lt = refl
rel_of-rel Le = refl
rel_of-rel Eq = refl
rel_of-rel Ge = refl
rel_of-rel Gt = refl

pub head_of-rel : (r : Rel) → head_of (rel_mark r) ≡ Plain
head_of-rel Lt = refl
head_of-rel Le = refl
head_of-rel Eq = refl
head_of-rel Ge = refl
head_of-rel Gt = refl

-- a term is no number
term-isnt_number : (names : Table) (ps : List Param) (t : Term) (l : Lexeme) → IsTermWord names ps t l → is mark.Number l.mark ≡ false
term-isnt_number names ps (Var i) l w = rw w.mark refl
term-isnt_number names ps (Const n) l w = name-isnt mark.Number l.mark (named-is_name names n l w) refl

-- the declared predicates have no name of a form
abbrev pub HaveHeads : Table → List Decl → Type 0
HaveHeads names decls = All (λ decl. is_predicate_name (name_mark names decl.name) ≡ true) decls

applied-head : (names : Table) (d : Domain) (ps : List Param) (f : Lifted) (o : Option Decl) → HaveHeads names d.predicates → predicate_of d f.head ≡ o → IsApplied d ps o f.terms → is_predicate_name (name_mark names f.head) ≡ true
applied-head names d ps f None heads e h = absurd h
applied-head names d ps f (Some decl) heads e h =
    let found = found_all (λ decl. is_predicate_name (name_mark names decl.name) ≡ true) (λ decl. same_name f.head decl.name) d.predicates decl heads e in
    let one : f.head ≡ decl.name = ap (λ k. record { 0 = k }) (eqb-true f.head.0 decl.name.0 found.1) in
    rw one found.0

-- so a fact has none
pub fact-head : (names : Table) (d : Domain) (ps : List Param) (f : Lifted) → HaveHeads names d.predicates → IsFactOf d ps f → is_predicate_name (name_mark names f.head) ≡ true
fact-head names d ps f heads h = applied-head names d ps f (predicate_of d f.head) heads refl h

-- nothing after a list
pub joined-none : (ts : Nesteds) → joined ts none ≡ ts
joined-none none = refl
joined-none (more t ts) = ap (λ rest. more t rest) (joined-none ts)

module _ (names : Table) (d : Domain) (acts : List ActionDef) (ps : List Param) (apart : AreApart (λ p. p.name) ps) (predicates : TakeFew d.predicates) (functions : TakeFew d.functions) (heads : HaveHeads names d.predicates) where
  comparison-means : (r : Rel) (x y : ExprTree) (t u : Nested) → IsExpr d ps x → IsExpr d ps y → IsExprForm names ps x t → IsExprForm names ps y u → meant.comparison reads (words (acting d acts) ps) r t u ≡ Ok (cond.Cmp r x y)
  comparison-means r x y t u h k a b = rw (value-means names d acts ps apart functions x t h a, value-means names d acts ps apart functions y u k b, expr_tree-untree x, expr_tree-untree y) refl

  -- numbers are compared where the first operand is one
  equality-numbers : (x : ExprTree) (t u : Nested) → IsExprForm names ps x t → meant.equality reads (words (acting d acts) ps) t u ≡ meant.comparison reads (words (acting d acts) ps) Eq t u
  equality-numbers _ _ u (a_number n l m e) = rw m refl
  equality-numbers _ _ u (a_value f _ (form.lifted _ l ts w k)) = refl
  equality-numbers _ _ u (a_negation x l t m k) = refl
  equality-numbers _ _ u (an_operation o x y l t v m j k) = refl

  related-means : (r : Rel) (x : ExprTree) (t u : Nested) (other : Read Cond) → IsExprForm names ps x t → meant.related reads (words (acting d acts) ps) (Some r) t u other ≡ meant.comparison reads (words (acting d acts) ps) r t u
  related-means Lt x t u other k = refl
  related-means Le x t u other k = refl
  related-means Eq x t u other k = equality-numbers x t u k
  related-means Ge x t u other k = refl
  related-means Gt x t u other k = refl

  -- a name at the head is that of a predicate
  stated-name : (l : Lexeme) (ts : Nesteds) → is_name l.mark ≡ true → meant.plain_condition reads (words (acting d acts) ps) l ts ≡ meant.stated reads (words (acting d acts) ps) l ts
  stated-name l none h = refl
  stated-name l (more a none) h = refl
  stated-name l (more a (more b ts)) h = rw (rel_of-name l.mark h) refl

-- the second of two lists, where both are so
second_half : (P : Param → Type 0) (ps qs : List Param) → All P (ps ++ qs) → All P qs
second_half P ps qs h = subst (All P) (drop-append_seam ps qs) (All-drop P (length ps) (ps ++ qs) h)

-- variables that a list binds after these
pub binding-means : (names : Table) (d : Domain) (acts : List ActionDef) (most : ℕ) (ps qs : List Param) (vs : Nesteds) → AreTyped d most (ps ++ qs) → AreParamForms names qs vs → binding (acting d acts) most ps vs ≡ Ok qs
binding-means names d acts most ps qs vs h forms =
    let all : listed (acting d acts) (Bound most) vs ps ≡ Ok (ps ++ qs) =
    listed-means (acting d acts) (Bound most) qs ps vs h.few h.apart (second_half (λ p. is_type d p.kind ≡ true) ps qs h.kinds) (params_listed names qs vs forms) in
    rw (all, drop-append_seam ps qs) refl

module _ (names : Table) (d : Domain) (acts : List ActionDef) (own : ℕ) (predicates : TakeFew d.predicates) (functions : TakeFew d.functions) (heads : HaveHeads names d.predicates) where
  -- variables in force, and those of a quantifier after them
  bound-means : (ps qs : List Param) (vs : Nesteds) → own ≤ length ps → AreTyped d (own + 2) (ps ++ qs) → AreParamForms names qs vs → bound (acting d acts) own ps vs ≡ Ok qs
  bound-means ps qs vs many h forms =
      let few = h.few in
      binding-means names d acts (most_in_force own ps) ps qs vs (record { few = omega (arith, few, many); apart = h.apart; kinds = h.kinds }) forms

  mutual
    pub condition-means : (ps : List Param) → AreApart (λ p. p.name) ps → own ≤ length ps → (c : CondTree) (t : Nested) → AllIn (declared_leaves d own) ps c → IsCondForm names ps c t → meant.condition reads (scopes (acting d acts) own) ps t ≡ Ok (uncond c)
    condition-means ps apart many _ _ h (all_form _ cs l ts m k) = rw (m, conditions-mean ps apart many cs ts [] h k) refl
    condition-means ps apart many _ _ h (any_form _ cs l ts m k) = rw (m, conditions-mean ps apart many cs ts [] h.1 k) refl
    condition-means ps apart many _ _ h (not_form _ c l t m k) = rw (m, condition-means ps apart many c t h k, cond_tree-uncond c) refl
    condition-means ps apart many _ _ h (imply_form _ a b l t u m j k) =
        rw (m, condition-means ps apart many a t h.1.0 j, condition-means ps apart many b u h.1.1 k, cond_tree-uncond a, cond_tree-uncond b) refl
    condition-means ps apart many _ _ h (some_form _ qs c l vs t m v k) =
        rw (m, bound-means ps qs vs many h.0 v, condition-means (ps ++ qs) h.0.apart (omega (arith, many, length-append ps qs)) c t h.1 k, cond_tree-uncond c) refl
    condition-means ps apart many _ _ h (each_form _ qs c l vs t m v k) =
        rw (m, bound-means ps qs vs many h.0 v, condition-means (ps ++ qs) h.0.apart (omega (arith, many, length-append ps qs)) c t h.1 k, cond_tree-uncond c) refl
    condition-means ps apart many _ _ h (fact_form _ f _ (form.lifted _ l ts w u)) =
        let head : is_predicate_name l.mark ≡ true = rw w.mark (fact-head names d ps f heads h) in
        rw (head_of-predicate l.mark head, stated-name names d acts ps apart predicates functions heads l ts (named-is_name names f.head l w), fact-means names d acts ps apart f l ts predicates h w u) refl
    condition-means ps apart many _ _ h (same_form _ a b l m n e v w) =
        rw (e, term-isnt_number names ps a m v, resolved-means names d acts ps apart a m h.0.0 h.0.1 v, term-isnt_number names ps b n w, resolved-means names d acts ps apart b n h.1.0 h.1.1 w) refl
    condition-means ps apart many _ _ h (comparison_form _ r x y l t u m j k) =
        let plain : head_of l.mark ≡ Plain = rw m (head_of-rel r) in
        let rel : rel_of l.mark ≡ Some r = rw m (rel_of-rel r) in
        rw (plain, rel, related-means names d acts ps apart predicates functions heads r x t u (meant.stated reads (words (acting d acts) ps) l (more t (more u none))) j, comparison-means names d acts ps apart predicates functions heads r x y t u h.0 h.1 j k) refl

    conditions-mean : (ps : List Param) → AreApart (λ p. p.name) ps → own ≤ length ps → (cs : CondTrees) (ts : Nesteds) (before : List CondTree) → AllInEach (declared_leaves d own) ps cs → AreCondForms names ps cs ts → meant.conditions reads (scopes (acting d acts) own) ps ts before ≡ Ok (before ++ list_of cs)
    conditions-mean ps apart many _ _ before h (no_forms _) = rw append-nil refl
    conditions-mean ps apart many _ _ before h (more_forms _ c cs t ts k rest) =
        rw (condition-means ps apart many c t h.0 k, cond_tree-uncond c, conditions-mean ps apart many cs ts (before ++ c ∷ []) h.1 rest, append_assoc before (c ∷ []) (list_of cs)) refl

-- ---- the parts of an action's condition

module _ (names : Table) (d : Domain) (acts : List ActionDef) (ps : List Param) (apart : AreApart (λ p. p.name) ps) (predicates : TakeFew d.predicates) (functions : TakeFew d.functions) (heads : HaveHeads names d.predicates) where
  part-means : (c : CondTree) (t : Nested) → IsCond d ps c → IsCondForm names ps c t → condition (acting d acts) ps t ≡ Ok (uncond c)
  part-means c t h k = condition-means names d acts (length ps) predicates functions heads ps apart (omega arith) c t h k

  pub starts-mean : (cs : List CondTree) (ts us : Nesteds) (parts : Conditions) → All (IsCond d ps) cs → AreForms (IsStartCond names ps) cs ts → part.all_timed (acting d acts) ps (joined ts us) parts ≡ part.all_timed (acting d acts) ps us (record parts { at_start = parts.at_start ++ cs })
  starts-mean _ _ us parts h no_items = rw append-nil refl
  starts-mean _ _ us parts h (more_items c cs _ ts (timed l m u a b k) rest) =
      rw (a, b, part-means c u (All-head (IsCond d ps) c cs h) k, cond_tree-uncond c, starts-mean cs ts us (record parts { at_start = parts.at_start ++ c ∷ [] }) (All-tail (IsCond d ps) c cs h) rest, append_assoc parts.at_start (c ∷ []) cs) refl

  pub overs-mean : (cs : List CondTree) (ts us : Nesteds) (parts : Conditions) → All (IsCond d ps) cs → AreForms (IsOverCond names ps) cs ts → part.all_timed (acting d acts) ps (joined ts us) parts ≡ part.all_timed (acting d acts) ps us (record parts { over_all = parts.over_all ++ cs })
  overs-mean _ _ us parts h no_items = rw append-nil refl
  overs-mean _ _ us parts h (more_items c cs _ ts (timed l m u a b k) rest) =
      rw (a, part-means c u (All-head (IsCond d ps) c cs h) k, cond_tree-uncond c, overs-mean cs ts us (record parts { over_all = parts.over_all ++ c ∷ [] }) (All-tail (IsCond d ps) c cs h) rest, append_assoc parts.over_all (c ∷ []) cs) refl

  pub ends-mean : (cs : List CondTree) (ts us : Nesteds) (parts : Conditions) → All (IsCond d ps) cs → AreForms (IsEndCond names ps) cs ts → part.all_timed (acting d acts) ps (joined ts us) parts ≡ part.all_timed (acting d acts) ps us (record parts { at_end = parts.at_end ++ cs })
  ends-mean _ _ us parts h no_items = rw append-nil refl
  ends-mean _ _ us parts h (more_items c cs _ ts (timed l m u a b k) rest) =
      rw (a, b, part-means c u (All-head (IsCond d ps) c cs h) k, cond_tree-uncond c, ends-mean cs ts us (record parts { at_end = parts.at_end ++ c ∷ [] }) (All-tail (IsCond d ps) c cs h) rest, append_assoc parts.at_end (c ∷ []) cs) refl
