-- Conditions that are read are of what is declared.
use Rattle.std.proofs.Common.{◌≡◌, ℕ, ◌+◌, Bool, true, false, All, List, [], ◌∷◌, ◌++◌, drop, length, Option, Some, None, Ok, Err, sym, subst, arith}
use Rattle.std.proofs.lemmas.List.Elements.{All-push}
use Rattle.ps_world.specs.ExprViews.{expr_tree}
use Rattle.ps_world.specs.CondViews.{cond_tree}
use Rattle.ps_world.specs.Knowledge.{is_type}
use Rattle.ps_world.specs.Leaves.{AllIn, AllInEach}
use Rattle.ps_world.specs.Trees.{CondTree, cond_trees}
use Rattle.ps_world.specs.declared.domains.Param.{Param}
use Rattle.ps_world.specs.declared.domains.Domain.{Domain}
use Rattle.ps_world.specs.declared.schemas.Term.{Term}
use Rattle.ps_world.specs.declared.actions.ActionDef.{ActionDef}
use Rattle.ps_world.specs.declared.conditions.Cond.{Cond}
use Rattle.ps_world.specs.declared.conditions.Cond.TheVariants as cond
use Rattle.ps_world.specs.declared.conditions.Rel.{Rel}
use Rattle.ps_world.specs.declared.conditions.Rel.TheVariants.{Lt, Le, Eq, Ge, Gt}
use Rattle.ps_grammar.specs.Marks.{is}
use Rattle.ps_grammar.specs.declared.marks.Mark.{Mark}
use Rattle.ps_grammar.specs.declared.marks.Mark.TheVariants as mark
use Rattle.ps_pddl.specs.Conditions as part
use Rattle.ps_lists.specs.Nested.{Nested, Nesteds, word, group, none, more}
use Rattle.ps_lists.specs.Places.{items, word_of}
use Rattle.ps_conditions.specs.Conditions as meant
use Rattle.ps_conditions.specs.Signs.{head_of, rel_of}
use Rattle.ps_conditions.specs.Steps.{◌>>=◌}
use Rattle.ps_pddl.specs.Steps.{Read, reads}
use Rattle.ps_pddl.specs.Terms.{fact, resolved}
use Rattle.ps_pddl.specs.Lists.{binding, kept, listed}
use Rattle.ps_pddl.specs.Words.{bound, condition, most_in_force, scopes, second, term, value, words}
use Rattle.ps_pddl.specs.WellFormed.{AreCounted, AreTyped, HasKind, IsCond, IsCounted, IsFactOf, IsTerm, declared_leaves}
use Rattle.ps_lists.specs.declared.lexemes.Lexeme.{Lexeme}
use Rattle.ps_world.specs.declared.actions.Conditions.{Conditions}
use Rattle.ps_pddl.specs.declared.refusals.DomainRefusal.TheVariants.{Kind}
use Rattle.ps_pddl.specs.declared.meaning.lists.Listing.TheVariants.{Bound}
use Rattle.ps_pddl.proofs.BoundLists.{kept_bound, listed_begins}
use Rattle.ps_pddl.proofs.Sound.{Sound, also_sound, both_sound, by_head_sound, then_sound, either_sound}
use Rattle.ps_pddl.proofs.SoundLists.{AreFew, AreFine, AreKnown, listed_after_sound}
use Rattle.ps_pddl.proofs.SoundTerms.{acting, IsValue, fact_sound, resolved_sound, value_sound}

-- in an action with so many parameters, where these variables are in force
module _ (d : Domain) (acts : List ActionDef) (own : ℕ) (ps : List Param) where
  -- a condition, and conditions in order
  abbrev IsHeldTree : CondTree → Type 0
  IsHeldTree c = AllIn (declared_leaves (acting d acts) own) ps c

  abbrev IsHeld : Cond → Type 0
  IsHeld c = IsHeldTree (cond_tree c)

  abbrev AreHeld : List CondTree → Type 0
  AreHeld cs = AllInEach (declared_leaves (acting d acts) own) ps (cond_trees cs)

  held_push : (cs : List CondTree) (c : CondTree) → AreHeld cs → IsHeldTree c → AreHeld (cs ++ c ∷ [])
  held_push [] c h k = (k, tt)
  held_push (x ∷ cs) c h k = (h.0, held_push cs c h.1 k)

  comparison_sound : (rel : Rel) (a b : Nested) → IsCounted a → IsCounted b → Sound IsHeld (meant.comparison reads (words d ps) rel a b)
  comparison_sound rel a b h k =
      then_sound (IsValue d acts ps) IsHeld (value d ps a) (λ x. value d ps b >>= λ y. Ok (cond.Cmp rel (expr_tree x) (expr_tree y))) (value_sound d acts ps a h)
      (λ x one. then_sound (IsValue d acts ps) IsHeld (value d ps b) (λ y. Ok (cond.Cmp rel (expr_tree x) (expr_tree y))) (value_sound d acts ps b k) (λ y two. (one, two)))

  -- a term that stands there
  abbrev IsThere : Term → Type 0
  IsThere t = IsTerm (acting d acts) ps t

  term_sound : (l : Lexeme) → Sound IsThere (term d ps l)
  term_sound l = then_sound (λ t. HasKind (acting d acts) ps t.term t.kind) IsThere (resolved d ps l) (λ t. Ok t.term) (resolved_sound d acts ps l) (λ t k. (t.kind, k))

  second_sound : (first : Lexeme) (t : Nested) → Sound IsThere (second d ps first t)
  second_sound first (group ts) = tt
  second_sound first (word l) = either_sound IsThere (is mark.Number l.mark) (Err (Kind first.at)) (term d ps l) (λ e. tt) (λ e. term_sound l)

  same_as_sound : (l : Lexeme) (b : Nested) → Sound IsHeld (meant.same_as reads (words d ps) l b)
  same_as_sound l b =
      then_sound IsThere IsHeld (term d ps l) (λ s. second d ps l b >>= λ t. Ok (cond.Same s t)) (term_sound l)
      (λ s one. then_sound IsThere IsHeld (second d ps l b) (λ t. Ok (cond.Same s t)) (second_sound l b) (λ t two. (one, two)))

  equality_sound : (a b : Nested) → IsCounted a → IsCounted b → Sound IsHeld (meant.equality reads (words d ps) a b)
  equality_sound (group ts) b h k = comparison_sound Eq (group ts) b h k
  equality_sound (word l) b h k =
      either_sound IsHeld (is mark.Number l.mark) (meant.comparison reads (words d ps) Eq (word l) b) (meant.same_as reads (words d ps) l b)
      (λ e. comparison_sound Eq (word l) b h k) (λ e. same_as_sound l b)

  stated_sound : (l : Lexeme) (ts : Nesteds) → Sound IsHeld (meant.stated reads (words d ps) l ts)
  stated_sound l ts = then_sound (IsFactOf (acting d acts) ps) IsHeld (fact d ps l ts) (λ f. Ok (cond.Holds f)) (fact_sound d acts ps l ts) (λ f h. h)

  related_sound : (rel : Option Rel) (a b : Nested) (other : Read Cond) → IsCounted a → IsCounted b → Sound IsHeld other → Sound IsHeld (meant.related reads (words d ps) rel a b other)
  related_sound None a b other h k o = o
  related_sound (Some Eq) a b other h k o = equality_sound a b h k
  related_sound (Some Lt) a b other h k o = comparison_sound Lt a b h k
  related_sound (Some Le) a b other h k o = comparison_sound Le a b h k
  related_sound (Some Ge) a b other h k o = comparison_sound Ge a b h k
  related_sound (Some Gt) a b other h k o = comparison_sound Gt a b h k

  plain_condition_sound : (l : Lexeme) (ts : Nesteds) → AreCounted ts → Sound IsHeld (meant.plain_condition reads (words d ps) l ts)
  plain_condition_sound l none h = stated_sound l none
  plain_condition_sound l (more a none) h = stated_sound l (more a none)
  plain_condition_sound l (more a (more b ts)) h =
      related_sound (rel_of l.mark) a b (meant.stated reads (words d ps) l (more a (more b ts))) h.0 h.1.0 (stated_sound l (more a (more b ts)))

-- ---- quantifiers

module _ (d : Domain) (acts : List ActionDef) (most : ℕ) where
  -- so many variables at most: apart and of declared types
  abbrev AreBelow : List Param → Type 0
  AreBelow ps = AreTyped (acting d acts) most ps

  listed_below : (ps all : List Param) → AreFine d (Bound most) all × (ps ++ drop (length ps) all ≡ all) → AreBelow (ps ++ drop (length ps) all)
  listed_below ps all h =
      let fine = subst (λ (x : List Param). AreFew most x × All (λ (p : Param). is_type d p.kind ≡ true) x) (kept_bound most all) h.0 in
      subst AreBelow (sym h.1) (record { few = fine.0.0; apart = fine.0.1; kinds = fine.1 })

  -- what a list binds after variables in force
  pub binding_sound : (ps : List Param) (ts : Nesteds) → AreBelow ps → Sound (λ qs. AreBelow (ps ++ qs)) (binding d most ps ts)
  binding_sound ps ts h =
      let start : AreFew most (kept (Bound most) ps) × AreKnown d (Bound most) ps =
      subst (λ (x : List Param). AreFew most x × All (λ (p : Param). is_type d p.kind ≡ true) x) (sym (kept_bound most ps)) ((h.few, h.apart), h.kinds) in
      then_sound (λ all. AreFine d (Bound most) all × (ps ++ drop (length ps) all ≡ all)) (λ qs. AreBelow (ps ++ qs)) (listed d (Bound most) ts ps) (λ all. Ok (drop (length ps) all))
      (both_sound (AreFine d (Bound most)) (λ all. ps ++ drop (length ps) all ≡ all) (listed d (Bound most) ts ps) (listed_after_sound d (Bound most) ts ps start.0 start.1) (listed_begins d (Bound most) ts ps))
      (λ all p. listed_below ps all p)

module _ (d : Domain) (acts : List ActionDef) (own : ℕ) where
  -- variables in force: few, apart and of declared types
  abbrev AreInForce : List Param → Type 0
  AreInForce ps = AreTyped (acting d acts) (own + 2) ps

  bound_sound : (ps : List Param) (ts : Nesteds) → AreInForce ps → Sound (λ qs. AreInForce (ps ++ qs)) (bound d own ps ts)
  bound_sound ps ts h =
      let most = most_in_force own ps in
      let few = h.few in
      also_sound (λ qs. AreTyped (acting d acts) most (ps ++ qs)) (λ qs. AreInForce (ps ++ qs)) (bound d own ps ts)
      (binding_sound d acts most ps ts (record { few = omega (arith, few); apart = h.apart; kinds = h.kinds }))
      (λ qs k. let less = k.few in record { few = omega (arith, less); apart = k.apart; kinds = k.kinds })

  quantifier_held : (ps qs : List Param) (each : Bool) (c : CondTree) → AreInForce (ps ++ qs) → IsHeldTree d acts own (ps ++ qs) c → IsHeld d acts own ps (meant.quantifier each qs c)
  quantifier_held ps qs true c h k = (h, k)
  quantifier_held ps qs false c h k = (h, k)

  mutual
    pub condition_sound : (ps : List Param) → AreInForce ps → (t : Nested) → IsCounted t → Sound (IsHeld d acts own ps) (meant.condition reads (scopes d own) ps t)
    condition_sound ps f (word l) h = tt
    condition_sound ps f (group ts) h = form_sound ps f ts h

    form_sound : (ps : List Param) → AreInForce ps → (ts : Nesteds) → AreCounted ts → Sound (IsHeld d acts own ps) (meant.form reads (scopes d own) ps ts)
    form_sound ps f none h = tt
    form_sound ps f (more t ts) h =
        by_head_sound (IsHeld d acts own ps) (head_of (word_of t).mark) _
        (then_sound (AreHeld d acts own ps) (IsHeld d acts own ps) (meant.conditions reads (scopes d own) ps ts []) (λ cs. Ok (cond.And cs)) (conditions_sound ps f ts [] h.1 tt) (λ cs k. k))
        (then_sound (AreHeld d acts own ps) (IsHeld d acts own ps) (meant.conditions reads (scopes d own) ps ts []) (λ cs. Ok (cond.Or cs)) (conditions_sound ps f ts [] h.1 tt) (λ cs k. (tt, k)))
        (negation_sound ps f ts h.1) (implication_sound ps f ts h.1) (quantified_sound ps f false ts h.1) (quantified_sound ps f true ts h.1)
        (plain_condition_sound d acts own ps (word_of t) ts h.1)

    negation_sound : (ps : List Param) → AreInForce ps → (ts : Nesteds) → AreCounted ts → Sound (IsHeld d acts own ps) (meant.negation reads (scopes d own) ps ts)
    negation_sound ps f none h = tt
    negation_sound ps f (more c ts) h =
        then_sound (IsHeld d acts own ps) (IsHeld d acts own ps) (meant.condition reads (scopes d own) ps c) (λ x. Ok (cond.Not (cond_tree x))) (condition_sound ps f c h.0) (λ x k. k)

    implication_sound : (ps : List Param) → AreInForce ps → (ts : Nesteds) → AreCounted ts → Sound (IsHeld d acts own ps) (meant.implication reads (scopes d own) ps ts)
    implication_sound ps f none h = tt
    implication_sound ps f (more a none) h = tt
    implication_sound ps f (more a (more b ts)) h =
        then_sound (IsHeld d acts own ps) (IsHeld d acts own ps) (meant.condition reads (scopes d own) ps a) (λ x. meant.condition reads (scopes d own) ps b >>= λ y. Ok (cond.Imply (cond_tree x) (cond_tree y))) (condition_sound ps f a h.0)
        (λ x one. then_sound (IsHeld d acts own ps) (IsHeld d acts own ps) (meant.condition reads (scopes d own) ps b) (λ y. Ok (cond.Imply (cond_tree x) (cond_tree y))) (condition_sound ps f b h.1.0) (λ y two. (tt, (one, two))))

    quantified_sound : (ps : List Param) → AreInForce ps → (each : Bool) (ts : Nesteds) → AreCounted ts → Sound (IsHeld d acts own ps) (meant.quantified reads (scopes d own) ps each ts)
    quantified_sound ps f each none h = tt
    quantified_sound ps f each (more vs none) h = tt
    quantified_sound ps f each (more vs (more c ts)) h =
        then_sound (λ qs. AreInForce (ps ++ qs)) (IsHeld d acts own ps) (bound d own ps (items vs)) (λ qs. meant.condition reads (scopes d own) (ps ++ qs) c >>= λ x. Ok (meant.quantifier each qs (cond_tree x))) (bound_sound ps (items vs) f)
        (λ qs g. then_sound (IsHeld d acts own (ps ++ qs)) (IsHeld d acts own ps) (meant.condition reads (scopes d own) (ps ++ qs) c) (λ x. Ok (meant.quantifier each qs (cond_tree x))) (condition_sound (ps ++ qs) g c h.1.0)
        (λ x k. quantifier_held ps qs each (cond_tree x) g k))

    conditions_sound : (ps : List Param) → AreInForce ps → (ts : Nesteds) (before : List CondTree) → AreCounted ts → AreHeld d acts own ps before → Sound (AreHeld d acts own ps) (meant.conditions reads (scopes d own) ps ts before)
    conditions_sound ps f none before h k = k
    conditions_sound ps f (more c cs) before h k =
        then_sound (IsHeld d acts own ps) (AreHeld d acts own ps) (meant.condition reads (scopes d own) ps c) (λ x. meant.conditions reads (scopes d own) ps cs (before ++ cond_tree x ∷ [])) (condition_sound ps f c h.0)
        (λ x one. conditions_sound ps f cs (before ++ cond_tree x ∷ []) h.1 (held_push d acts own ps before (cond_tree x) k one))

-- ---- the parts of an action's condition

module _ (d : Domain) (acts : List ActionDef) (ps : List Param) (typed : AreTyped (acting d acts) 6 ps) where
  -- the parameters of an action are in force in it
  own_in_force : AreTyped (acting d acts) (length ps + 2) ps
  own_in_force = record { few = omega arith; apart = typed.apart; kinds = typed.kinds }

  abbrev IsHeldHere : Cond → Type 0
  IsHeldHere c = IsCond (acting d acts) ps (cond_tree c)

  abbrev pub AreParts : Conditions → Type 0
  AreParts parts = All (IsCond (acting d acts) ps) parts.at_start × All (IsCond (acting d acts) ps) parts.over_all × All (IsCond (acting d acts) ps) parts.at_end

  at_time_held : (moment : Mark) (c : Cond) (parts : Conditions) → IsHeldHere c → AreParts parts → AreParts (part.at_time moment c parts)
  at_time_held mark.Start c parts h k = (All-push (IsCond (acting d acts) ps) parts.at_start (cond_tree c) k.0 h, k.1, k.2)
  at_time_held m c parts h k = (k.0, k.1, All-push (IsCond (acting d acts) ps) parts.at_end (cond_tree c) k.2 h)

  timed_part_sound : (m moment : Mark) (t : Nested) (parts : Conditions) → IsCounted t → AreParts parts → Sound AreParts (part.timed_part d ps m moment t parts)
  timed_part_sound mark.At moment t parts h k =
      then_sound IsHeldHere AreParts (condition d ps t) (λ c. Ok (part.at_time moment c parts)) (condition_sound d acts (length ps) ps own_in_force t h) (λ c one. at_time_held moment c parts one k)
  timed_part_sound mark.Over moment t parts h k =
      then_sound IsHeldHere AreParts (condition d ps t) (λ c. Ok (part.over_all c parts)) (condition_sound d acts (length ps) ps own_in_force t h)
      (λ c one. (k.0, All-push (IsCond (acting d acts) ps) parts.over_all (cond_tree c) k.1 one, k.2))
  timed_part_sound m moment t parts h k = k

  timed_form_sound : (l : Lexeme) (ts : Nesteds) (parts : Conditions) → AreCounted ts → AreParts parts → Sound AreParts (part.timed_form d ps l ts parts)
  timed_form_sound l none parts h k = k
  timed_form_sound l (more moment none) parts h k = k
  timed_form_sound l (more moment (more t ts)) parts h k = timed_part_sound l.mark (word_of moment).mark t parts h.1.0 k

  mutual
    pub timed_sound : (t : Nested) (parts : Conditions) → IsCounted t → AreParts parts → Sound AreParts (part.timed d ps t parts)
    timed_sound (word l) parts h k = k
    timed_sound (group ts) parts h k = timed_list_sound ts parts h k

    timed_list_sound : (ts : Nesteds) (parts : Conditions) → AreCounted ts → AreParts parts → Sound AreParts (part.timed_list d ps ts parts)
    timed_list_sound none parts h k = k
    timed_list_sound (more f ts) parts h k =
        either_sound AreParts (is mark.And (word_of f).mark) (part.all_timed d ps ts parts) (part.timed_form d ps (word_of f) ts parts)
        (λ e. all_timed_sound ts parts h.1 k) (λ e. timed_form_sound (word_of f) ts parts h.1 k)

    all_timed_sound : (ts : Nesteds) (parts : Conditions) → AreCounted ts → AreParts parts → Sound AreParts (part.all_timed d ps ts parts)
    all_timed_sound none parts h k = k
    all_timed_sound (more t ts) parts h k =
        then_sound AreParts AreParts (part.timed d ps t parts) (λ x. part.all_timed d ps ts x) (timed_sound t parts h.0 k) (λ x one. all_timed_sound ts x h.1 one)
