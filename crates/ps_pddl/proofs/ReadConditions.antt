-- Conditions that are read: their names stand in the table, their heads may stand there, and they have as few levels as their lists.
use Rattle.std.proofs.Common.{◌≡◌, ℕ, suc, zero, ◌<◌, ◌≤◌, Bool, true, false, All, List, [], ◌∷◌, ◌++◌, length, Option, Some, None, Ok, Err, refl, ap, subst, arith}
use Rattle.std.proofs.lemmas.List.Elements.{All-append, All-push}
use Rattle.ps_world.specs.CondViews.{cond_tree}
use Rattle.ps_world.specs.ExprViews.{expr_tree}
use Rattle.ps_world.specs.Names.{Table}
use Rattle.ps_world.specs.Trees.{CondTree, CondTrees, cond_trees, ExprTree}
use Rattle.ps_world.specs.Trees as tree
use Rattle.ps_world.specs.declared.domains.Param.{Param}
use Rattle.ps_world.specs.declared.domains.Domain.{Domain}
use Rattle.ps_world.specs.declared.schemas.Lifted.{Lifted}
use Rattle.ps_world.specs.declared.schemas.Term.{Term}
use Rattle.ps_world.specs.declared.conditions.Cond.{Cond}
use Rattle.ps_world.specs.declared.conditions.Cond.TheVariants as cond
use Rattle.ps_world.specs.declared.conditions.Rel.{Rel}
use Rattle.ps_world.specs.declared.conditions.Rel.TheVariants.{Lt, Le, Eq, Ge, Gt}
use Rattle.ps_grammar.specs.Marks.{is, is_fact_name}
use Rattle.ps_grammar.specs.declared.marks.Mark.{Mark}
use Rattle.ps_grammar.specs.declared.marks.Mark.TheVariants as mark
use Rattle.ps_lists.specs.Conditions.{is_relation}
use Rattle.ps_lists.specs.Conditions as written
use Rattle.ps_lists.specs.Grammar.{IsValue, IsCondition, AreConditions, IsTimedCondition, IsPart, AreParts, IsConditionForm}
use Rattle.ps_lists.specs.Grammar as grammar
use Rattle.ps_lists.specs.Nested.{Nested, Nesteds, word, group, none, more}
use Rattle.ps_lists.specs.declared.lexemes.Lexeme.{Lexeme}
use Rattle.ps_print.specs.CanonicalWords.{AreCondsOf, IsCondOf, IsParamOf}
use Rattle.ps_pddl.specs.Conditions as part
use Rattle.ps_conditions.specs.Conditions as meant
use Rattle.ps_conditions.specs.Signs.{rel_of}
use Rattle.ps_conditions.specs.Steps.{◌>>=◌}
use Rattle.ps_pddl.specs.Steps.{Read, reads}
use Rattle.ps_pddl.specs.Terms.{fact, resolved}
use Rattle.ps_pddl.specs.Words.{bound, condition, most_in_force, scopes, second, term, value, words}
use Rattle.ps_world.specs.declared.actions.Conditions.{Conditions}
use Rattle.ps_pddl.specs.declared.refusals.DomainRefusal.TheVariants.{Kind}
use Rattle.ps_pddl.proofs.CanonicalForms.{name_mark}
use Rattle.ps_pddl.proofs.Fits.{FitsExpr, fits_number, fits_value, fits_negation, fits_operation, IsVariableName, FitsCond, fits_all, fits_any, fits_not, fits_implied, fits_some, fits_each, fits_fact, fits_same, fits_comparison, FitConds, fit_none, fit_more}
use Rattle.ps_pddl.proofs.ReadLists.{AreParamsHere, binding_here}
use Rattle.ps_pddl.proofs.ReadMarks.{fact-is_name, fact_no_rel, no_sound, relation_there, yes_sound}
use Rattle.ps_pddl.proofs.ReadNames.{IsTold, AllTold, AreTold}
use Rattle.ps_pddl.proofs.ReadValues.{IsHeadHere, IsTermHere, IsTypedHere, IsValueHere, fact_here, resolved_here, value_here}
use Rattle.ps_pddl.proofs.Sound.{Sound, also_sound, then_sound, either_sound}
use Rattle.ps_pddl.proofs.MeanMarks.{head_of-fact, head_of-relation}

-- ---- more levels

pub expr_fits_more : (room most : ℕ) (x : ExprTree) → FitsExpr room x → room ≤ most → FitsExpr most x
expr_fits_more _ most _ (fits_number room n) le = fits_number most n
expr_fits_more _ zero _ (fits_value room f) le = absurd (omega (arith, le))
expr_fits_more _ (suc most) _ (fits_value room f) le = fits_value most f
expr_fits_more _ zero _ (fits_negation room x h) le = absurd (omega (arith, le))
expr_fits_more _ (suc most) _ (fits_negation room x h) le = fits_negation most x (expr_fits_more room most x h (omega (arith, le)))
expr_fits_more _ zero _ (fits_operation room o x y h k) le = absurd (omega (arith, le))
expr_fits_more _ (suc most) _ (fits_operation room o x y h k) le =
    fits_operation most o x y (expr_fits_more room most x h (omega (arith, le))) (expr_fits_more room most y k (omega (arith, le)))

mutual
  pub cond_fits_more : (names : Table) (room most : ℕ) (c : CondTree) → FitsCond names room c → room ≤ most → FitsCond names most c
  cond_fits_more names _ zero _ (fits_all room cs h) le = absurd (omega (arith, le))
  cond_fits_more names _ (suc most) _ (fits_all room cs h) le = fits_all most cs (conds_fit_more names room most cs h (omega (arith, le)))
  cond_fits_more names _ zero _ (fits_not room c h) le = absurd (omega (arith, le))
  cond_fits_more names _ (suc most) _ (fits_not room c h) le = fits_not most c (cond_fits_more names room most c h (omega (arith, le)))
  cond_fits_more names _ zero _ (fits_any room cs h) le = absurd (omega (arith, le))
  cond_fits_more names _ (suc most) _ (fits_any room cs h) le = fits_any most cs (conds_fit_more names room most cs h (omega (arith, le)))
  cond_fits_more names _ zero _ (fits_implied room a b h k) le = absurd (omega (arith, le))
  cond_fits_more names _ (suc most) _ (fits_implied room a b h k) le =
      fits_implied most a b (cond_fits_more names room most a h (omega (arith, le))) (cond_fits_more names room most b k (omega (arith, le)))
  cond_fits_more names _ zero _ (fits_some room qs c free h) le = absurd (omega (arith, le))
  cond_fits_more names _ (suc most) _ (fits_some room qs c free h) le = fits_some most qs c free (cond_fits_more names room most c h (omega (arith, le)))
  cond_fits_more names _ zero _ (fits_each room qs c free h) le = absurd (omega (arith, le))
  cond_fits_more names _ (suc most) _ (fits_each room qs c free h) le = fits_each most qs c free (cond_fits_more names room most c h (omega (arith, le)))
  cond_fits_more names _ zero _ (fits_fact room f h) le = absurd (omega (arith, le))
  cond_fits_more names _ (suc most) _ (fits_fact room f h) le = fits_fact most f h
  cond_fits_more names _ zero _ (fits_same room a b) le = absurd (omega (arith, le))
  cond_fits_more names _ (suc most) _ (fits_same room a b) le = fits_same most a b
  cond_fits_more names _ zero _ (fits_comparison room r x y h k) le = absurd (omega (arith, le))
  cond_fits_more names _ (suc most) _ (fits_comparison room r x y h k) le =
      fits_comparison most r x y (expr_fits_more room most x h (omega (arith, le))) (expr_fits_more room most y k (omega (arith, le)))

  conds_fit_more : (names : Table) (room most : ℕ) (cs : CondTrees) → FitConds names room cs → room ≤ most → FitConds names most cs
  conds_fit_more names _ most _ (fit_none room) le = fit_none most
  conds_fit_more names _ most _ (fit_more room c cs h k) le = fit_more most c cs (cond_fits_more names room most c h le) (conds_fit_more names room most cs k le)

module _ (after : Table) (first : 0 < length after) (d : Domain) (ps : List Param) where
  -- ---- conditions

  -- a condition of what is there, with at most so many levels
  abbrev pub IsTreeHere : ℕ → CondTree → Type 0
  IsTreeHere room c = IsCondOf (length after) ps c × FitsCond after room c

  abbrev IsCondHere : ℕ → Cond → Type 0
  IsCondHere room c = IsTreeHere room (cond_tree c)

  abbrev AreCondsHere : ℕ → List CondTree → Type 0
  AreCondsHere room cs = AreCondsOf (length after) ps (cond_trees cs) × FitConds after room (cond_trees cs)

  conds_push : (cs : List CondTree) (c : CondTree) → AreCondsOf (length after) ps (cond_trees cs) → IsCondOf (length after) ps c → AreCondsOf (length after) ps (cond_trees (cs ++ c ∷ []))
  conds_push [] c h k = (k, tt)
  conds_push (x ∷ cs) c h k = (h.0, conds_push cs c h.1 k)

  fits_tail : (room : ℕ) (c : CondTree) (cs : CondTrees) → FitConds after room (tree.more c cs) → FitsCond after room c × FitConds after room cs
  fits_tail room c cs (fit_more _ _ _ h k) = (h, k)

  fits_push : (room : ℕ) (cs : List CondTree) (c : CondTree) → FitConds after room (cond_trees cs) → FitsCond after room c → FitConds after room (cond_trees (cs ++ c ∷ []))
  fits_push room [] c h k = fit_more room c tree.none k (fit_none room)
  fits_push room (x ∷ cs) c h k =
      let parts = fits_tail room x (cond_trees cs) h in
      fit_more room x (cond_trees (cs ++ c ∷ [])) parts.0 (fits_push room cs c parts.1 k)

  comparison_here : (room : ℕ) (r : Rel) (a b : Nested) → IsValue room a → IsValue room b → AllTold after a → AllTold after b → Sound (IsCondHere (suc room)) (meant.comparison reads (words d ps) r a b)
  comparison_here room r a b v w h k =
      then_sound (IsValueHere after first d ps room) (IsCondHere (suc room)) (value d ps a) (λ x. value d ps b >>= λ y. Ok (cond.Cmp r (expr_tree x) (expr_tree y))) (value_here after first d ps room a v h)
      (λ x one. then_sound (IsValueHere after first d ps room) (IsCondHere (suc room)) (value d ps b) (λ y. Ok (cond.Cmp r (expr_tree x) (expr_tree y))) (value_here after first d ps room b w k)
      (λ y two. ((one.0, two.0), fits_comparison room r (expr_tree x) (expr_tree y) one.1 two.1)))

  -- a term that stands in the table
  abbrev IsThere : Term → Type 0
  IsThere t = IsTermHere after first d ps t

  term_here : (l : Lexeme) → IsTold after l → Sound IsThere (term d ps l)
  term_here l h = then_sound (IsTypedHere after first d ps) IsThere (resolved d ps l) (λ t. Ok t.term) (resolved_here after first d ps l h.below) (λ t one. one)

  second_here : (l : Lexeme) (t : Nested) → AllTold after t → Sound IsThere (second d ps l t)
  second_here l (group ts) k = tt
  second_here l (word m) k = either_sound IsThere (is mark.Number m.mark) (Err (Kind l.at)) (term d ps m) (λ e. tt) (λ e. term_here m k)

  same_as_here : (room : ℕ) (l : Lexeme) (b : Nested) → IsTold after l → AllTold after b → Sound (IsCondHere (suc room)) (meant.same_as reads (words d ps) l b)
  same_as_here room l b h k =
      then_sound IsThere (IsCondHere (suc room)) (term d ps l) (λ s. second d ps l b >>= λ t. Ok (cond.Same s t)) (term_here l h)
      (λ s one. then_sound IsThere (IsCondHere (suc room)) (second d ps l b) (λ t. Ok (cond.Same s t)) (second_here l b k)
      (λ t two. ((one, two), fits_same room s t)))

  equality_here : (room : ℕ) (a b : Nested) → IsValue room a → IsValue room b → AllTold after a → AllTold after b → Sound (IsCondHere (suc room)) (meant.equality reads (words d ps) a b)
  equality_here room (group ts) b v w h k = comparison_here room Eq (group ts) b v w h k
  equality_here room (word l) b v w h k =
      either_sound (IsCondHere (suc room)) (is mark.Number l.mark) (meant.comparison reads (words d ps) Eq (word l) b) (meant.same_as reads (words d ps) l b)
      (λ e. comparison_here room Eq (word l) b v w h k) (λ e. same_as_here room l b h k)

  -- the head of a fact may stand there
  head_fits : (l : Lexeme) (f : Lifted) → is_fact_name l.mark ≡ true → IsTold after l → f.head ≡ l.name → is_fact_name (name_mark after f.head) ≡ true
  head_fits l f m h e = rw e (subst (λ (x : Mark). is_fact_name x ≡ true) (h.named (fact-is_name l.mark m)) m)

  stated_here : (room : ℕ) (l : Lexeme) (ts : Nesteds) → is_fact_name l.mark ≡ true → IsTold after l → AreTold after ts → Sound (IsCondHere (suc room)) (meant.stated reads (words d ps) l ts)
  stated_here room l ts m h k =
      then_sound (IsHeadHere after first d ps l) (IsCondHere (suc room)) (fact d ps l ts) (λ f. Ok (cond.Holds f)) (fact_here after first d ps l ts h.below k)
      (λ f one. (one.1, fits_fact room f (head_fits l f m h one.0)))

  -- with no relation it is the other
  unrelated_here : (P : Cond → Type 0) (r : Option Rel) (a b : Nested) (other : Read Cond) → r ≡ None → Sound P other → Sound P (meant.related reads (words d ps) r a b other)
  unrelated_here P None a b other e o = o
  unrelated_here P (Some r) a b other e o = absurd (cc)

  related_here : (room : ℕ) (r : Option Rel) (a b : Nested) (other : Read Cond) → (r ≡ None → ⊥) → IsValue room a → IsValue room b → AllTold after a → AllTold after b → Sound (IsCondHere (suc room)) (meant.related reads (words d ps) r a b other)
  related_here room None a b other there v w h k = absurd (there refl)
  related_here room (Some Eq) a b other there v w h k = equality_here room a b v w h k
  related_here room (Some Lt) a b other there v w h k = comparison_here room Lt a b v w h k
  related_here room (Some Le) a b other there v w h k = comparison_here room Le a b v w h k
  related_here room (Some Ge) a b other there v w h k = comparison_here room Ge a b v w h k
  related_here room (Some Gt) a b other there v w h k = comparison_here room Gt a b v w h k

  plain_here : (room : ℕ) (l : Lexeme) (ts : Nesteds) → is_fact_name l.mark ≡ true → IsTold after l → AreTold after ts → Sound (IsCondHere (suc room)) (meant.plain_condition reads (words d ps) l ts)
  plain_here room l none m h k = stated_here room l none m h k
  plain_here room l (more a none) m h k = stated_here room l (more a none) m h k
  plain_here room l (more a (more b ts)) m h k =
      unrelated_here (IsCondHere (suc room)) (rel_of l.mark) a b (meant.stated reads (words d ps) l (more a (more b ts))) (fact_no_rel l.mark m) (stated_here room l (more a (more b ts)) m h k)

module _ (after : Table) (first : 0 < length after) (d : Domain) (own : ℕ) where
  -- two values after a relation
  compared_here : (ps : List Param) (room : ℕ) (l : Lexeme) (x y : Nested) → is_relation l.mark ≡ true → IsValue room x → IsValue room y → AllTold after (group (more (word l) (more x (more y none)))) → Sound (IsCondHere after first d ps (suc room)) (meant.condition reads (scopes d own) ps (group (more (word l) (more x (more y none)))))
  compared_here ps room l x y m v w h =
      rw (head_of-relation l.mark m) (related_here after first d ps room (rel_of l.mark) x y (meant.stated reads (words d ps) l (more x (more y none))) (relation_there l.mark m) v w h.1.0 h.1.1.0)

  -- a quantifier of variables that may stand there and of a condition that does
  some_here : (ps qs : List Param) (room : ℕ) (each : Bool) (c : CondTree) → AreParamsHere after first qs → IsTreeHere after first d (ps ++ qs) room c → IsCondHere after first d ps (suc room) (meant.quantifier each qs c)
  some_here ps qs room true c h k = ((h.0, k.0), fits_each room qs c h.1 k.1)
  some_here ps qs room false c h k = ((h.0, k.0), fits_some room qs c h.1 k.1)

  pub both_here : (ps qs : List Param) → AreParamsHere after first ps → AreParamsHere after first qs → AreParamsHere after first (ps ++ qs)
  both_here ps qs h k = (All-append (IsParamOf (length after)) ps qs h.0 k.0, All-append (λ (p : Param). IsVariableName after p.name) ps qs h.1 k.1)

  mutual
    pub condition_here : (ps : List Param) → AreParamsHere after first ps → (room : ℕ) (t : Nested) → IsCondition room t → AllTold after t → Sound (IsCondHere after first d ps room) (meant.condition reads (scopes d own) ps t)
    condition_here ps f _ _ (written.all_of room l ts m cs) h =
        rw m (then_sound (AreCondsHere after first d ps room) (IsCondHere after first d ps (suc room)) (meant.conditions reads (scopes d own) ps ts []) (λ all. Ok (cond.And all)) (conditions_here ps f room ts [] cs h.1 (tt, fit_none room))
        (λ all k. (k.0, fits_all room (cond_trees all) k.1)))
    condition_here ps f _ _ (written.any_of room l ts m cs) h =
        rw m (then_sound (AreCondsHere after first d ps room) (IsCondHere after first d ps (suc room)) (meant.conditions reads (scopes d own) ps ts []) (λ all. Ok (cond.Or all)) (conditions_here ps f room ts [] cs h.1 (tt, fit_none room))
        (λ all k. ((tt, k.0), fits_any room (cond_trees all) k.1)))
    condition_here ps f _ _ (written.not_so room l c m one) h =
        rw m (then_sound (IsCondHere after first d ps room) (IsCondHere after first d ps (suc room)) (meant.condition reads (scopes d own) ps c) (λ x. Ok (cond.Not (cond_tree x))) (condition_here ps f room c one h.1.0)
        (λ x k. (k.0, fits_not room (cond_tree x) k.1)))
    condition_here ps f _ _ (written.implication room l a b m one other) h =
        rw m (then_sound (IsCondHere after first d ps room) (IsCondHere after first d ps (suc room)) (meant.condition reads (scopes d own) ps a) (λ x. meant.condition reads (scopes d own) ps b >>= λ y. Ok (cond.Imply (cond_tree x) (cond_tree y))) (condition_here ps f room a one h.1.0)
        (λ x j. then_sound (IsCondHere after first d ps room) (IsCondHere after first d ps (suc room)) (meant.condition reads (scopes d own) ps b) (λ y. Ok (cond.Imply (cond_tree x) (cond_tree y))) (condition_here ps f room b other h.1.1.0)
        (λ y k. ((tt, (j.0, k.0)), fits_implied room (cond_tree x) (cond_tree y) j.1 k.1))))
    condition_here ps f _ _ (written.some_choice room l vs c m typed one) h =
        rw m (then_sound (AreParamsHere after first) (IsCondHere after first d ps (suc room)) (bound d own ps vs) (λ qs. meant.condition reads (scopes d own) (ps ++ qs) c >>= λ x. Ok (meant.quantifier false qs (cond_tree x))) (binding_here after first d (most_in_force own ps) ps vs typed h.1.0 f)
        (λ qs g. then_sound (IsCondHere after first d (ps ++ qs) room) (IsCondHere after first d ps (suc room)) (meant.condition reads (scopes d own) (ps ++ qs) c) (λ x. Ok (meant.quantifier false qs (cond_tree x))) (condition_here (ps ++ qs) (both_here ps qs f g) room c one h.1.1.0)
        (λ x k. some_here ps qs room false (cond_tree x) g k)))
    condition_here ps f _ _ (written.each_choice room l vs c m typed one) h =
        rw m (then_sound (AreParamsHere after first) (IsCondHere after first d ps (suc room)) (bound d own ps vs) (λ qs. meant.condition reads (scopes d own) (ps ++ qs) c >>= λ x. Ok (meant.quantifier true qs (cond_tree x))) (binding_here after first d (most_in_force own ps) ps vs typed h.1.0 f)
        (λ qs g. then_sound (IsCondHere after first d (ps ++ qs) room) (IsCondHere after first d ps (suc room)) (meant.condition reads (scopes d own) (ps ++ qs) c) (λ x. Ok (meant.quantifier true qs (cond_tree x))) (condition_here (ps ++ qs) (both_here ps qs f g) room c one h.1.1.0)
        (λ x k. some_here ps qs room true (cond_tree x) g k)))
    condition_here ps f _ _ (written.a_fact room l ts m r few) h = rw (head_of-fact l.mark m) (plain_here after first d ps room l ts m h.0 h.1)
    condition_here ps f _ _ (written.same room l m n is s t) h =
        compared_here ps room l (word m) (word n) (ap is_relation is) (written.an_argument room m refl s) (written.an_argument room n refl t) h
    condition_here ps f _ _ (written.comparison room l x y m v w) h = compared_here ps room l x y m v w h

    conditions_here : (ps : List Param) → AreParamsHere after first ps → (room : ℕ) (ts : Nesteds) (before : List CondTree) → AreConditions room ts → AreTold after ts → AreCondsHere after first d ps room before → Sound (AreCondsHere after first d ps room) (meant.conditions reads (scopes d own) ps ts before)
    conditions_here ps f _ _ before (written.no_condition room) h k = k
    conditions_here ps f _ _ before (written.one_condition room c cs one r) h k =
        then_sound (IsCondHere after first d ps room) (AreCondsHere after first d ps room) (meant.condition reads (scopes d own) ps c) (λ x. meant.conditions reads (scopes d own) ps cs (before ++ cond_tree x ∷ [])) (condition_here ps f room c one h.0)
        (λ x p. conditions_here ps f room cs (before ++ cond_tree x ∷ []) r h.1 (conds_push after first d ps before (cond_tree x) k.0 p.0, fits_push after first d ps room before (cond_tree x) k.1 p.1))

-- ---- the parts of an action's condition

module _ (after : Table) (first : 0 < length after) (d : Domain) (ps : List Param) (params : AreParamsHere after first ps) where
  abbrev pub IsPartHere : ℕ → CondTree → Type 0
  IsPartHere room c = IsTreeHere after first d ps room c

  abbrev IsCondPart : ℕ → Cond → Type 0
  IsCondPart room c = IsPartHere room (cond_tree c)

  abbrev pub ArePartsHere : ℕ → Conditions → Type 0
  ArePartsHere most parts = All (IsPartHere most) parts.at_start × All (IsPartHere most) parts.over_all × All (IsPartHere most) parts.at_end

  at_time_here : (most : ℕ) (moment : Mark) (c : Cond) (parts : Conditions) → IsCondPart most c → ArePartsHere most parts → ArePartsHere most (part.at_time moment c parts)
  at_time_here most mark.Start c parts h k = (All-push (IsPartHere most) parts.at_start (cond_tree c) k.0 h, k.1, k.2)
  at_time_here most m c parts h k = (k.0, k.1, All-push (IsPartHere most) parts.at_end (cond_tree c) k.2 h)

  timed_part_here : (most : ℕ) (m moment : Mark) (t : Nested) (parts : Conditions) → Sound (IsCondPart most) (condition d ps t) → ArePartsHere most parts → Sound (ArePartsHere most) (part.timed_part d ps m moment t parts)
  timed_part_here most mark.At moment t parts h k =
      then_sound (IsCondPart most) (ArePartsHere most) (condition d ps t) (λ c. Ok (part.at_time moment c parts)) h (λ c one. at_time_here most moment c parts one k)
  timed_part_here most mark.Over moment t parts h k =
      then_sound (IsCondPart most) (ArePartsHere most) (condition d ps t) (λ c. Ok (part.over_all c parts)) h
      (λ c one. (k.0, All-push (IsPartHere most) parts.over_all (cond_tree c) k.1 one, k.2))
  timed_part_here most m moment t parts h k = k

  -- what stands in a timed form has no more levels than are left
  timed_condition_here : (most room : ℕ) (t : Nested) (parts : Conditions) → IsTimedCondition room t → room ≤ most → AllTold after t → ArePartsHere most parts → Sound (ArePartsHere most) (part.timed d ps t parts)
  timed_condition_here most _ _ parts (grammar.at_moment room l m c first_word moment one) le h k =
      no_sound (ArePartsHere most) (is mark.And l.mark) (part.all_timed d ps (more (word m) (more c none)) parts) (part.timed_part d ps l.mark m.mark c parts) (ap (is mark.And) first_word)
      (timed_part_here most l.mark m.mark c parts (also_sound (IsCondPart room) (IsCondPart most) (condition d ps c) (condition_here after first d (length ps) ps params room c one h.1.1.0) (λ x p. (p.0, cond_fits_more after room most (cond_tree x) p.1 le))) k)
  timed_condition_here most _ _ parts (grammar.over_all room l m c first_word moment one) le h k =
      no_sound (ArePartsHere most) (is mark.And l.mark) (part.all_timed d ps (more (word m) (more c none)) parts) (part.timed_part d ps l.mark m.mark c parts) (ap (is mark.And) first_word)
      (timed_part_here most l.mark m.mark c parts (also_sound (IsCondPart room) (IsCondPart most) (condition d ps c) (condition_here after first d (length ps) ps params room c one h.1.1.0) (λ x p. (p.0, cond_fits_more after room most (cond_tree x) p.1 le))) k)

  -- a list of parts, by its head
  listed_parts : (most : ℕ) (l : Lexeme) (ts : Nesteds) (parts : Conditions) → l.mark ≡ mark.And → Sound (ArePartsHere most) (part.all_timed d ps ts parts) → Sound (ArePartsHere most) (part.timed d ps (group (more (word l) ts)) parts)
  listed_parts most l ts parts m h = yes_sound (ArePartsHere most) (is mark.And l.mark) (part.all_timed d ps ts parts) (part.timed_form d ps l ts parts) (ap (is mark.And) m) h

  mutual
    part_here : (most room : ℕ) (t : Nested) (parts : Conditions) → IsPart room t → room ≤ suc most → AllTold after t → ArePartsHere most parts → Sound (ArePartsHere most) (part.timed d ps t parts)
    part_here most _ _ parts (grammar.empty_part room) le h k = k
    part_here most _ _ parts (grammar.all_parts room l ts m all) le h k = listed_parts most l ts parts m (parts_here most room ts parts all (omega (arith, le)) h.1 k)
    part_here most _ _ parts (grammar.timed_part room t one) le h k = timed_condition_here most room t parts one (omega (arith, le)) h k

    parts_here : (most room : ℕ) (ts : Nesteds) (parts : Conditions) → AreParts room ts → room ≤ suc most → AreTold after ts → ArePartsHere most parts → Sound (ArePartsHere most) (part.all_timed d ps ts parts)
    parts_here most _ _ parts (grammar.no_part room) le h k = k
    parts_here most _ _ parts (grammar.one_part room t ts one all) le h k =
        then_sound (ArePartsHere most) (ArePartsHere most) (part.timed d ps t parts) (λ x. part.all_timed d ps ts x) (part_here most room t parts one le h.0 k) (λ x p. parts_here most room ts x all le h.1 p)

  pub condition_form_here : (most room : ℕ) (t : Nested) (parts : Conditions) → IsConditionForm room t → room ≤ suc (suc most) → AllTold after t → ArePartsHere most parts → Sound (ArePartsHere most) (part.timed d ps t parts)
  condition_form_here most _ _ parts (grammar.empty_condition room) le h k = k
  condition_form_here most _ _ parts (grammar.listed_condition room l ts m all) le h k = listed_parts most l ts parts m (parts_here most room ts parts all (omega (arith, le)) h.1 k)
  condition_form_here most _ _ parts (grammar.lone_condition room t one) le h k = timed_condition_here most room t parts one (omega (arith, le)) h k
