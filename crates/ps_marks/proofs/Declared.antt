-- What ground actions add is of declared arguments, where the adds of the domain's actions suit their predicates.
use Rattle.std.proofs.Common.{◌≡◌, ◌⊎◌, ℕ, zero, suc, ◌+◌, ◌==◌, Bool, true, false, cond, if◌then◌else◌, List, [], ◌∷◌, ◌++◌, Option, Some, None, Ok, Err, is_none, filter, flat_map, length, map, slice_get, slice_index_or, inl, inr, refl, ap, sym, ◌∙◌, subst, append_assoc, arith}
use Rattle.std.specs.List.{AllByRecursion, AllZip, Contains}
use Rattle.std.specs.Map.{lookup}
use Rattle.std.specs.Option.{option_or}
use Rattle.std.proofs.lemmas.Bool.{eqb-true, false≢true}
use Rattle.std.proofs.lemmas.List.{append-nil}
use Rattle.std.proofs.lemmas.List.Elements.{filter_map-append}
use Rattle.ps_world.specs.Bound.{ground_in, name_in}
use Rattle.ps_world.specs.CondViews.{cond_tree}
use Rattle.ps_world.specs.Knowledge.{action_of, fault_of_fact, ground, is_below, is_type, kind_of}
use Rattle.ps_world.specs.Names.{object, same_name}
use Rattle.ps_world.specs.declared.actions.ActionDef.{ActionDef}
use Rattle.ps_world.specs.declared.actions.Effect.{Effect}
use Rattle.ps_world.specs.declared.actions.Effect.TheVariants.{Add, Delete, Number}
use Rattle.ps_world.specs.declared.actions.Guarded.{Guarded}
use Rattle.ps_world.specs.declared.actions.Guarded.TheVariants.{Plain, When}
use Rattle.ps_world.specs.declared.actions.Spread.{Spread}
use Rattle.ps_world.specs.declared.actions.Spread.TheVariants.{Once, ForAll}
use Rattle.ps_world.specs.declared.domains.Domain.{Domain}
use Rattle.ps_world.specs.declared.domains.Param.{Param}
use Rattle.ps_world.specs.declared.facts.Fact.{Fact}
use Rattle.ps_world.specs.declared.known.Knowledge.{Knowledge}
use Rattle.ps_world.specs.declared.names.Name.{Name}
use Rattle.ps_world.specs.declared.schemas.Lifted.{Lifted}
use Rattle.ps_world.specs.declared.schemas.Term.{Term}
use Rattle.ps_world.specs.declared.schemas.Term.TheVariants.{Var, Const}
use Rattle.ps_world.proofs.SameTexts.{name_itself}
use Rattle.ps_action.specs.Bindings.{bindings, fitting_names, of_type}
use Rattle.ps_action.specs.Effects.{added_by, flat, flat_guarded, flat_spread}
use Rattle.ps_action.specs.Grounding.{all_ground, first_unfit, ground_by, grounded, put_condition, put_effect, put_guarded, put_lifted, put_spread, unfit}
use Rattle.ps_action.specs.Refusals.{unless}
use Rattle.ps_action.specs.Truth.{is_true_with}
use Rattle.ps_action.specs.declared.acts.Act.{Act}
use Rattle.ps_action.specs.declared.acts.GroundAction.{GroundAction}
use Rattle.ps_action.specs.declared.refusals.GroundRefusal.{GroundRefusal}
use Rattle.ps_action.specs.declared.refusals.GroundRefusal.TheVariants.{Arity, WrongType}
use Rattle.ps_action.proofs.Facts.{same_name-is}
use Rattle.ps_action.proofs.Grounded.{ground_put, ground_put_in}
use Rattle.ps_domain.proofs.AllActions.{ground_actions_are_all}
use Rattle.ps_domain.proofs.Indexes.{same_turned}
use Rattle.ps_domain.proofs.Members.{Has, Contains_from_has, has_all, has_found, has_mapped, has_passed, has_piece}
use Rattle.ps_domain.proofs.Pairs.{Pairs, pairs_from_AllPairs}
use Rattle.ps_problem.specs.WellKnown.{Fits}
use Rattle.ps_marks.specs.Closures.{is_in}
use Rattle.ps_marks.specs.Fitting.{AddSuits, HasConstants, PartSuits, SpreadSuits, TermSuits}
use Rattle.ps_marks.specs.Laws.{AddsAreDeclared}
use Rattle.ps_marks.proofs.Below.{below_below}
use Rattle.ps_marks.proofs.Makes.{added, declared_at, only_one}
use Rattle.ps_marks.proofs.Members.{in_both}

-- ---- what is added by several

-- what two lists of effects add is added by one of them
added_parts : (x : Fact) (xs ys : List Effect) → is_in (added (xs ++ ys)) x ≡ true → (is_in (added xs) x ≡ true) ⊎ (is_in (added ys) x ≡ true)
added_parts x xs ys e = in_both (added xs) (added ys) x (ap (λ fs. is_in fs x) (sym (filter_map-append added_by xs ys)) ∙ e)

-- what holds of what each part adds holds of what all add
from_parts : {A : Type 0} (x : Fact) (P : Type 0) (F : A → List Effect) (parts : List A) → ((a : A) → Has parts a → is_in (added (F a)) x ≡ true → P) → is_in (added (flat_map F parts)) x ≡ true → P
from_parts x P F [] h e = absurd (false≢true e)
from_parts x P F (a ∷ parts) h e =
    elim (added_parts x (F a) (flat_map F parts) e) [
      | inl first ↦ h a (inl refl) first
      | inr rest ↦ from_parts x P F parts (λ b there. h b (inr there)) rest
    ]

from_mapped : {A B : Type 0} (x : Fact) (P : Type 0) (Q : A → Type 0) (F : B → List Effect) (put : A → B) (parts : List A) → AllByRecursion Q parts → ((a : A) → Q a → is_in (added (F (put a))) x ≡ true → P) → is_in (added (flat_map F (map put parts))) x ≡ true → P
from_mapped x P Q F put [] q h e = absurd (false≢true e)
from_mapped x P Q F put (a ∷ parts) q h e =
    elim (added_parts x (F (put a)) (flat_map F (map put parts)) e) [
      | inl first ↦ h a q.0 first
      | inr rest ↦ from_mapped x P Q F put parts q.1 h rest
    ]

module _ (d : Domain) (k : Knowledge) where
  -- ---- names that fit

  fit_at : (ps : List Param) (ns : List Name) (i : ℕ) (p : Param) → AllZip (Fits d k) ps ns → slice_get ps i ≡ Some p → Fits d k p (slice_index_or ns i object)
  fit_at [] ns i p a e = absurd (cc)
  fit_at (q ∷ ps) [] i p a e = absurd a
  fit_at (q ∷ ps) (n ∷ ns) zero p a e = let same : q ≡ p = cc in subst (λ (x : Param). Fits d k x n) same a.0
  fit_at (q ∷ ps) (n ∷ ns) (suc i) p a e = fit_at ps ns i p a.1 e

  zip_both : (ps qs : List Param) (ns ms : List Name) → AllZip (Fits d k) ps ns → AllZip (Fits d k) qs ms → AllZip (Fits d k) (ps ++ qs) (ns ++ ms)
  zip_both [] qs [] ms a b = b
  zip_both [] qs (n ∷ ns) ms a b = absurd a
  zip_both (p ∷ ps) qs [] ms a b = absurd a
  zip_both (p ∷ ps) qs (n ∷ ns) ms a b = (a.0, zip_both ps qs ns ms a.1 b)

  module _ (constants : HasConstants d k) (vs : List Param) (names : List Name) (fits : AllZip (Fits d k) vs names) where
    term_fits : (want : Param) (t : Term) → TermSuits d vs want t → Fits d k want (name_in names t)
    term_fits want (Var i) s = let f = fit_at vs names i s.0 fits s.1 in (f.0, f.1, below_below d f.0 s.0.kind want.kind f.2 s.2)
    term_fits want (Const n) s =
        let h = has_found (λ p. same_name n p.name) d.constants s.0 s.1 in
        (s.0.kind, ap (kind_of k) (same_name-is n s.0.name h.1) ∙ constants s.0 (Contains_from_has d.constants s.0 h.0), s.2)

    terms_fit : (wants : List Param) (ts : List Term) → AllZip (TermSuits d vs) wants ts → AllZip (Fits d k) wants (map (name_in names) ts)
    terms_fit [] [] a = tt
    terms_fit [] (t ∷ ts) a = absurd a
    terms_fit (want ∷ wants) [] a = absurd a
    terms_fit (want ∷ wants) (t ∷ ts) a = (term_fits want t a.0, terms_fit wants ts a.1)

    add_declared : (l : Lifted) → AddSuits d vs (Add l) → is_none (fault_of_fact d k (ground_in names l)) ≡ true
    add_declared l s = declared_at d k s.0 (ground_in names l) s.1 (terms_fit s.0.params l.terms s.2)

  -- ---- what parts add

  abbrev Declared : Fact → Type 0
  Declared x = is_none (fault_of_fact d k x) ≡ true

  module _ (constants : HasConstants d k) (now : Knowledge) (x : Fact) (args : List Name) where
    module _ (vs : List Param) (env : List Name) (fits : AllZip (Fits d k) vs (args ++ env)) where
      effect_declared : (e : Effect) → AddSuits d vs e → is_in (added (put_effect env (put_effect args e) ∷ [])) x ≡ true → Declared x
      effect_declared (Add l) s h =
          let is : ground_in (args ++ env) l ≡ x = sym (ground_put args env l) ∙ sym (ground_put_in env (put_lifted args l)) ∙ sym (only_one x (ground (put_lifted env (put_lifted args l))) h) in
          subst Declared is (add_declared constants vs (args ++ env) fits l s)
      effect_declared (Delete l) s h = absurd (false≢true h)
      effect_declared (Number how l y) s h = absurd (false≢true h)

      effects_declared : (es : List Effect) → AllByRecursion (AddSuits d vs) es → is_in (added (map (put_effect env) (map (put_effect args) es))) x ≡ true → Declared x
      effects_declared [] a h = absurd (false≢true h)
      effects_declared (e ∷ es) a h =
          elim (added_parts x (put_effect env (put_effect args e) ∷ []) (map (put_effect env) (map (put_effect args) es)) h) [
            | inl first ↦ effect_declared e a.0 first
            | inr rest ↦ effects_declared es a.1 rest
          ]

      where_declared : (b : Bool) (es : List Effect) → AllByRecursion (AddSuits d vs) es → is_in (added (cond b (map (put_effect env) (map (put_effect args) es)) [])) x ≡ true → Declared x
      where_declared true es a h = effects_declared es a h
      where_declared false es a h = absurd (false≢true h)

      part_declared : (g : Guarded) → PartSuits d vs g → is_in (added (flat_guarded d now env (put_guarded args g))) x ≡ true → Declared x
      part_declared (Plain e) s h = effect_declared e s h
      part_declared (When c es) s h = where_declared (is_true_with d now env (cond_tree (put_condition args c))) es s h

    -- ---- what stands for each choice of instances

    module _ (once : Pairs (λ i j. same_name i.0 j.0 ≡ false) k.instances) (same : now.instances ≡ k.instances) where
      kind_from : (is : List (Name × Name)) (i : Name × Name) → Pairs (λ i j. same_name i.0 j.0 ≡ false) is → Has is i → lookup (same_name i.0) is ≡ Some i.1
      kind_from [] i p h = absurd h
      kind_from (j ∷ is) i p (inl e) =
          let itself : same_name i.0 j.0 ≡ true = ap (λ (y : Name × Name). same_name i.0 y.0) e ∙ name_itself i.0 in
          ap (λ b. cond b (Some j.1) (lookup (same_name i.0) is)) itself ∙ ap (λ (y : Name × Name). Some y.1) e
      kind_from (j ∷ is) i p (inr h) =
          let other : same_name i.0 j.0 ≡ false = same_turned i.0 j.0 ∙ has_all (λ y. same_name j.0 y.0 ≡ false) is i p.0 h in
          ap (λ b. cond b (Some j.1) (lookup (same_name i.0) is)) other ∙ kind_from is i p.1 h

      name_by : (p : Param) (n : Name) (b : Bool) → Has (cond b (of_type d k.instances p.kind) []) n → Fits d k p n
      name_by p n false h = absurd h
      name_by p n true h =
          let m = has_mapped (λ i. i.0) (filter (λ i. is_below d i.1 p.kind) k.instances) n h in
          let w = has_passed (λ i. is_below d i.1 p.kind) k.instances m.0 m.1 in
          subst (λ (q : Name). Fits d k p q) m.2 (m.0.1, kind_from k.instances m.0 once w.0, w.1)

      bound_fits : (vs qs : List Param) (start env : List Name) → AllZip (Fits d k) vs start → Has (bindings d k.instances qs start) env → AllZip (Fits d k) (vs ++ qs) env
      bound_fits vs [] start env a (inl e) =
          let P : List Param → Type 0 = λ ps. AllZip (Fits d k) ps env in
          subst P (sym (append-nil vs)) (subst (λ (ns : List Name). AllZip (Fits d k) vs ns) e a)
      bound_fits vs [] start env a (inr h) = absurd h
      bound_fits vs (q ∷ qs) start env a h =
          let m = has_piece (λ n. bindings d k.instances qs (start ++ n ∷ [])) (fitting_names d k.instances q.kind) env h in
          let fit = name_by q m.0 (is_type d q.kind) m.1 in
          let P : List Param → Type 0 = λ ps. AllZip (Fits d k) ps env in
          subst P (append_assoc vs (q ∷ []) qs) (bound_fits (vs ++ q ∷ []) qs (start ++ m.0 ∷ []) env (zip_both vs (q ∷ []) start (m.0 ∷ []) a (fit, tt)) m.2)

      module _ (ps : List Param) (fits : AllZip (Fits d k) ps args) where
        spread_declared : (s : Spread) → SpreadSuits d ps s → is_in (added (flat_spread d now (put_spread args s))) x ≡ true → Declared x
        spread_declared (Once g) s h =
            part_declared ps [] (subst (λ (ns : List Name). AllZip (Fits d k) ps ns) (sym (append-nil args)) fits) g s h
        spread_declared (ForAll qs gs) s h =
            let F : List Name → List Effect = λ env. flat_map (flat_guarded d now env) (map (put_guarded args) gs) in
            let all : is_in (added (flat_map F (bindings d k.instances qs []))) x ≡ true = ap (λ is. is_in (added (flat_map F (bindings d is qs []))) x) (sym same) ∙ h in
            from_parts x (Declared x) F (bindings d k.instances qs [])
            (λ env there here.
            let bound = bound_fits [] qs [] env tt there in
            from_mapped x (Declared x) (PartSuits d (ps ++ qs)) (flat_guarded d now env) (put_guarded args) gs s
            (λ g suits more. part_declared (ps ++ qs) env (zip_both ps qs args env fits bound) g suits more) here)
            all

        list_declared : (es : List Spread) → AllByRecursion (SpreadSuits d ps) es → is_in (added (flat d now (map (put_spread args) es))) x ≡ true → Declared x
        list_declared es a h = from_mapped x (Declared x) (SpreadSuits d ps) (flat_spread d now) (put_spread args) es a (λ s suits more. spread_declared s suits more) h

  -- ---- ground actions

  unfit_below : (p : Param) (n kind : Name) (at : ℕ) (rest : Option GroundRefusal) (b : Bool) → is_below d kind p.kind ≡ b → kind_of k n ≡ Some kind → option_or (if b then None else Some (WrongType at)) rest ≡ None → Fits d k p n × (rest ≡ None)
  unfit_below p n kind at rest true s l h = ((kind, l, s), h)
  unfit_below p n kind at rest false s l h = absurd (cc)

  unfit_at : (p : Param) (n : Name) (at : ℕ) (rest : Option GroundRefusal) (o : Option Name) → kind_of k n ≡ o → option_or (unfit d o p.kind n at) rest ≡ None → Fits d k p n × (rest ≡ None)
  unfit_at p n at rest None l h = absurd (cc)
  unfit_at p n at rest (Some kind) l h = unfit_below p n kind at rest (is_below d kind p.kind) refl l h

  args_fit : (ps : List Param) (ns : List Name) (at : ℕ) → length ps ≡ length ns → first_unfit d k.instances ps ns at ≡ None → AllZip (Fits d k) ps ns
  args_fit [] [] at long h = tt
  args_fit [] (n ∷ ns) at long h = absurd (omega arith)
  args_fit (p ∷ ps) [] at long h = absurd (omega arith)
  args_fit (p ∷ ps) (n ∷ ns) at long h =
      let m = unfit_at p n at (first_unfit d k.instances ps ns (at + 1)) (kind_of k n) refl h in
      (m.0, args_fit ps ns (at + 1) (omega arith) m.1)

  -- a ground action is that of a declared action with arguments that fit
  abbrev IsGrounded : Act → GroundAction → Type 0
  IsGrounded act g = (a : ActionDef) × Has d.actions a × AllZip (Fits d k) a.params act.args × (grounded a act ≡ g)

  by_fault : (a : ActionDef) (act : Act) (g : GroundAction) (o : Option GroundRefusal) → Has d.actions a → length a.params ≡ length act.args → first_unfit d k.instances a.params act.args 0 ≡ o → unless o (grounded a act) ≡ Ok g → IsGrounded act g
  by_fault a act g None there long e h = (a, there, args_fit a.params act.args 0 long e, cc)
  by_fault a act g (Some r) there long e h = absurd (cc)

  by_length : (a : ActionDef) (act : Act) (g : GroundAction) (b : Bool) → (length a.params == length act.args) ≡ b → Has d.actions a
      → (if b then unless (first_unfit d k.instances a.params act.args 0) (grounded a act) else Err (Arity (length a.params) (length act.args))) ≡ Ok g → IsGrounded act g
  by_length a act g true s there h = by_fault a act g (first_unfit d k.instances a.params act.args 0) there (eqb-true (length a.params) (length act.args) s) refl h
  by_length a act g false s there h = absurd (cc)

  by_action : (act : Act) (g : GroundAction) (o : Option ActionDef) → action_of d act.action ≡ o → ground_by d k.instances o act ≡ Ok g → IsGrounded act g
  by_action act g None s h = absurd (cc)
  by_action act g (Some a) s h =
      let m = has_found (λ b. same_name act.action b.name) d.actions a s in
      by_length a act g (length a.params == length act.args) refl m.0 h

pub adds_are_declared : AddsAreDeclared
adds_are_declared d k apart once suit constants =
    let all = ground_actions_are_all d k.instances apart once in
    let pairs = pairs_from_AllPairs (λ i j. same_name i.0 j.0 ≡ false) k.instances once in
    let of : (g : GroundAction) → Contains (all_ground d k.instances) g → (act : Act) × IsGrounded d k act g = λ g c. let m = (all.just g).0 c in (m.0, by_action d k m.0 g (action_of d m.0.action) refl m.1) in
    record {
      at_start = λ g c now same x h.
          let w = of g c in
          let a = w.1.0 in
          let is : map (put_spread w.0.args) a.effects.at_start ≡ g.effects.at_start = ap (λ (f : GroundAction). f.effects.at_start) w.1.3 in
          list_declared d k constants now x w.0.args pairs same a.params w.1.2 a.effects.at_start (suit.at_start a (Contains_from_has d.actions a w.1.1)) (ap (λ es. is_in (added (flat d now es)) x) is ∙ h);
      at_end = λ g c now same x h.
          let w = of g c in
          let a = w.1.0 in
          let is : map (put_spread w.0.args) a.effects.at_end ≡ g.effects.at_end = ap (λ (f : GroundAction). f.effects.at_end) w.1.3 in
          list_declared d k constants now x w.0.args pairs same a.params w.1.2 a.effects.at_end (suit.at_end a (Contains_from_has d.actions a w.1.1)) (ap (λ es. is_in (added (flat d now es)) x) is ∙ h);
    }
