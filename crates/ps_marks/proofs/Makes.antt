-- What a list of effects adds in a state is among what it can make.
use Rattle.std.proofs.Common.{◌≡◌, ◌⊎◌, ℕ, ◌+◌, ◌==◌, Bool, true, false, cond, ◌&&◌, Option, Some, None, is_none, List, [], ◌∷◌, ◌++◌, filter_map, flat_map, map, length, inl, inr, refl, ap, sym, ◌∙◌, subst, eq-eqb}
use Rattle.std.specs.Cmp.{first_so}
use Rattle.std.specs.List.{AllZip}
use Rattle.std.specs.Map.{lookup}
use Rattle.std.proofs.lemmas.List.Elements.{filter_map-append}
use Rattle.std.proofs.lemmas.Bool.{and_from}
use Rattle.ps_world.specs.CondViews.{cond_tree}
use Rattle.ps_world.specs.Bound.{ground_in}
use Rattle.ps_world.specs.Names.{same_name}
use Rattle.ps_world.specs.Knowledge.{fault_of_fact, first_misfit, ground, name_of, predicate_of, same_fact}
use Rattle.ps_world.specs.declared.actions.Effect.{Effect}
use Rattle.ps_world.specs.declared.actions.Effect.TheVariants.{Add, Delete, Number}
use Rattle.ps_world.specs.declared.actions.Guarded.{Guarded}
use Rattle.ps_world.specs.declared.actions.Guarded.TheVariants.{Plain, When}
use Rattle.ps_world.specs.declared.actions.Spread.{Spread}
use Rattle.ps_world.specs.declared.actions.Spread.TheVariants.{Once, ForAll}
use Rattle.ps_world.specs.declared.domains.Decl.{Decl}
use Rattle.ps_world.specs.declared.domains.Domain.{Domain}
use Rattle.ps_world.specs.declared.domains.Param.{Param}
use Rattle.ps_world.specs.declared.edits.EditRefusal.TheVariants.{NoPredicate}
use Rattle.ps_world.specs.declared.facts.Fact.{Fact}
use Rattle.ps_world.specs.declared.known.Knowledge.{Knowledge}
use Rattle.ps_world.specs.declared.names.Name.{Name}
use Rattle.ps_world.specs.declared.schemas.Lifted.{Lifted}
use Rattle.ps_world.specs.declared.schemas.Term.{Term}
use Rattle.ps_world.specs.declared.schemas.Term.TheVariants.{Var, Const}
use Rattle.ps_action.specs.Bindings.{bindings}
use Rattle.ps_action.specs.Effects.{added_by, flat, flat_guarded, flat_spread}
use Rattle.ps_action.specs.Grounding.{picks, put_effect, put_lifted, put_term}
use Rattle.ps_action.specs.Places.{closed, place_of, places_meet}
use Rattle.ps_action.specs.Truth.{is_true_with}
use Rattle.ps_action.proofs.Contained.{fact_same, or_cases}
use Rattle.ps_action.proofs.Facts.{same_name-is}
use Rattle.ps_action.proofs.Grounded.{ground_put_in}
use Rattle.ps_action.proofs.Standing.{in_place}
use Rattle.ps_domain.proofs.Members.{Has, Contains_from_has, has_image, has_in_piece, zip_length}
use Rattle.ps_problem.specs.WellKnown.{Fits, Suits}
use Rattle.ps_problem.proofs.Suits.{suits_from}
use Rattle.ps_marks.specs.Atoms.{facts_at, facts_by, facts_over, makes, makes_each, makes_once, makes_spread, makes_widely, names_known}
use Rattle.ps_marks.specs.Closures.{is_in}
use Rattle.ps_marks.proofs.Members.{both_first, both_second, filter_has, in_both, in_contains}

pub none_is : {A : Type 0} (o : Option A) → is_none o ≡ true → o ≡ None
none_is None e = refl
none_is (Some a) e = absurd (cc)

-- ---- facts of declared arguments

named_at : (n kind : Name) (i : Name × Name) (is : List (Name × Name)) (b : Bool) → same_name n i.0 ≡ b → (lookup (same_name n) is ≡ Some kind → Has (map (λ i. i.0) is) n) → cond b (Some i.1) (lookup (same_name n) is) ≡ Some kind → Has (map (λ i. i.0) (i ∷ is)) n
named_at n kind i is true s rest e = inl (sym (same_name-is n i.0 s))
named_at n kind i is false s rest e = inr (rest e)

pub named : (n kind : Name) (is : List (Name × Name)) → lookup (same_name n) is ≡ Some kind → Has (map (λ i. i.0) is) n
named n kind [] e = absurd (cc)
named n kind (i ∷ is) e = named_at n kind i is (same_name n i.0) refl (named n kind is) e

module _ (d : Domain) (k : Knowledge) where
  picked : (ps : List Param) (args : List Name) → AllZip (Fits d k) ps args → Has (picks (map (λ p. names_known k) ps)) args
  picked [] [] a = inl refl
  picked [] (n ∷ ns) a = absurd a
  picked (p ∷ ps) [] a = absurd a
  picked (p ∷ ps) (n ∷ ns) a =
      let rest = picks (map (λ p. names_known k) ps) in
      has_in_piece (λ n. map (λ args. n ∷ args) rest) (names_known k) n (n ∷ ns) (named n a.0.0 k.instances a.0.1) (has_image (λ (args : List Name). n ∷ args) rest ns (picked ps ns a.1))

  over_by : (x : Fact) (o : Option Decl) → Suits d k o x.args → is_in (facts_by k x.head o) x ≡ true
  over_by x o s =
      let lists = picks (map (λ p. names_known k) s.0.params) in
      let P : Option Decl → Type 0 = λ q. is_in (facts_by k x.head q) x ≡ true in
      subst P (sym s.1) (in_contains (facts_by k x.head (Some s.0)) x (Contains_from_has (facts_by k x.head (Some s.0)) x (has_image (λ (args : List Name). record { head = x.head; args = args }) lists x.args (picked s.0.params x.args s.2))))

  -- a fact of declared arguments is among those of its head
  pub in_over : (x : Fact) → is_none (fault_of_fact d k x) ≡ true → is_in (facts_over d k x.head) x ≡ true
  in_over x e = over_by x (predicate_of d x.head) (suits_from NoPredicate d k (predicate_of d x.head) x.args (none_is (fault_of_fact d k x) e))

  -- and among those at each place that it meets
  pub in_at : (l : Lifted) (x : Fact) → places_meet (place_of l) (closed x) ≡ true → is_none (fault_of_fact d k x) ≡ true → is_in (facts_at d k l) x ≡ true
  in_at l x meets e =
      let same : x.head ≡ l.head = sym (same_name-is l.head x.head (first_so (same_name l.head x.head) _ meets)) in
      let P : Name → Type 0 = λ head. is_in (facts_over d k head) x ≡ true in
      filter_has (λ f. places_meet (place_of l) (closed f) && is_none (fault_of_fact d k f)) (facts_over d k l.head) x (subst P same (in_over x e)) (and_from _ _ meets e)

  fit_misfit : (ps : List Param) (ns : List Name) (at : ℕ) → AllZip (Fits d k) ps ns → is_none (first_misfit d k ps ns at) ≡ true
  fit_misfit [] [] at a = refl
  fit_misfit [] (n ∷ ns) at a = absurd a
  fit_misfit (p ∷ ps) [] at a = absurd a
  fit_misfit (p ∷ ps) (n ∷ ns) at a = rw (a.0.1, a.0.2) (fit_misfit ps ns (at + 1) a.1)

  pub declared_at : (decl : Decl) (x : Fact) → predicate_of d x.head ≡ Some decl → AllZip (Fits d k) decl.params x.args → is_none (fault_of_fact d k x) ≡ true
  declared_at decl x there a =
      let same : (length decl.params == length x.args) ≡ true = eq-eqb (length decl.params) (length x.args) (zip_length (Fits d k) decl.params x.args a) in
      rw (there, same) (fit_misfit decl.params x.args 0 a)

-- ---- what is added

-- the facts that effects add
abbrev pub added : List Effect → List Fact
added es = filter_map added_by es

term_alone : (t : Term) → name_of (put_term [] t) ≡ name_of t
term_alone (Var i) = refl
term_alone (Const n) = refl

terms_alone : (ts : List Term) → map name_of (map (put_term []) ts) ≡ map name_of ts
terms_alone [] = refl
terms_alone (t ∷ ts) = λ i. term_alone t i ∷ terms_alone ts i

ground_alone : (l : Lifted) → ground (put_lifted [] l) ≡ ground l
ground_alone l = λ i. record { head = l.head; args = terms_alone l.terms i }

pub only_one : (x y : Fact) → is_in (y ∷ []) x ≡ true → x ≡ y
only_one x y e = elim (or_cases (same_fact x y) false e) [ inl s ↦ fact_same x y s | inr none ↦ absurd (cc) ]

module _ (d : Domain) (k : Knowledge) (x : Fact) (declared : is_none (fault_of_fact d k x) ≡ true) where
  in_added : (xs ys : List Effect) → is_in (added (xs ++ ys)) x ≡ true → (is_in (added xs) x ≡ true) ⊎ (is_in (added ys) x ≡ true)
  in_added xs ys e = in_both (added xs) (added ys) x (ap (λ fs. is_in fs x) (sym (filter_map-append added_by xs ys)) ∙ e)

  -- what holds of each part holds of all
  in_parts : {A : Type 0} (g : A → List Effect) (h : A → List Fact) → ((a : A) → is_in (added (g a)) x ≡ true → is_in (h a) x ≡ true) → (parts : List A) → is_in (added (flat_map g parts)) x ≡ true → is_in (flat_map h parts) x ≡ true
  in_parts g h so [] e = absurd (cc)
  in_parts g h so (a ∷ parts) e =
      elim (in_added (g a) (flat_map g parts) e) [
        | inl first ↦ both_first (h a) (flat_map h parts) x (so a first)
        | inr later ↦ both_second (h a) (flat_map h parts) x (in_parts g h so parts later)
      ]

  in_one : {A : Type 0} (g : A → List Effect) (all : List Fact) → ((a : A) → is_in (added (g a)) x ≡ true → is_in all x ≡ true) → (parts : List A) → is_in (added (flat_map g parts)) x ≡ true → is_in all x ≡ true
  in_one g all so [] e = absurd (cc)
  in_one g all so (a ∷ parts) e = elim (in_added (g a) (flat_map g parts) e) [ inl first ↦ so a first | inr later ↦ in_one g all so parts later ]

  widely : (env : List Name) (e : Effect) → is_in (added (put_effect env e ∷ [])) x ≡ true → is_in (makes_widely d k e) x ≡ true
  widely env (Add l) h =
      let same : ground_in env l ≡ x = sym (ground_put_in env l) ∙ sym (only_one x (ground (put_lifted env l)) h) in
      let P : Fact → Type 0 = λ f. places_meet (place_of l) (closed f) ≡ true in
      in_at d k l x (subst P same (in_place env l)) declared
  widely env (Delete l) h = absurd (cc)
  widely env (Number how l y) h = absurd (cc)

  all_widely : (env : List Name) (es : List Effect) → is_in (added (map (put_effect env) es)) x ≡ true → is_in (flat_map (makes_widely d k) es) x ≡ true
  all_widely env [] h = absurd (cc)
  all_widely env (e ∷ es) h =
      elim (in_added (put_effect env e ∷ []) (map (put_effect env) es) h) [
        | inl first ↦ both_first (makes_widely d k e) (flat_map (makes_widely d k) es) x (widely env e first)
        | inr later ↦ both_second (makes_widely d k e) (flat_map (makes_widely d k) es) x (all_widely env es later)
      ]

  where_so : (b : Bool) (env : List Name) (es : List Effect) → is_in (added (cond b (map (put_effect env) es) [])) x ≡ true → is_in (flat_map (makes_widely d k) es) x ≡ true
  where_so true env es h = all_widely env es h
  where_so false env es h = absurd (cc)

  module _ (now : Knowledge) where
    each : (env : List Name) (g : Guarded) → is_in (added (flat_guarded d now env g)) x ≡ true → is_in (makes_each d k g) x ≡ true
    each env (Plain e) h = widely env e h
    each env (When c es) h = where_so (is_true_with d now env (cond_tree c)) env es h

    alone : (e : Effect) → is_in (added (put_effect [] e ∷ [])) x ≡ true → is_in (makes_once d k (Plain e)) x ≡ true
    alone (Add l) h = ap (λ f. is_in (f ∷ []) x) (sym (ground_alone l)) ∙ h
    alone (Delete l) h = h
    alone (Number how l y) h = h

    once : (g : Guarded) → is_in (added (flat_guarded d now [] g)) x ≡ true → is_in (makes_once d k g) x ≡ true
    once (Plain e) h = alone e h
    once (When c es) h = where_so (is_true_with d now [] (cond_tree c)) [] es h

    spread : (s : Spread) → is_in (added (flat_spread d now s)) x ≡ true → is_in (makes_spread d k s) x ≡ true
    spread (Once g) h = once g h
    spread (ForAll ps gs) h =
        in_one (λ env. flat_map (flat_guarded d now env) gs) (flat_map (makes_each d k) gs)
        (λ env. in_parts (flat_guarded d now env) (makes_each d k) (each env) gs) (bindings d now.instances ps []) h

    -- a fact of declared arguments that effects add is among what they can make
    pub can_be_added : (es : List Spread) → is_in (added (flat d now es)) x ≡ true → is_in (makes d k es) x ≡ true
    can_be_added es h = in_parts (flat_spread d now) (makes_spread d k) spread es h
