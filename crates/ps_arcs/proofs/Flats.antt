-- The effects that a list stands for: each has the same right side and old value where all that the list reads and changes is the same, and
-- what one of them changes is named.
use Rattle.std.proofs.Common.{◌≡◌, Bool, true, false, ◌⊎◌, if◌then◌else◌, List, [], ◌∷◌, ◌++◌, All, map, flat_map, refl, ap, sym, ◌∙◌, inl, inr}
use Rattle.std.specs.List.{list_any}
use Rattle.std.proofs.lemmas.Bool.{or_left, or_right}
use Rattle.std.proofs.lemmas.List.Elements.{All-nil, All-cons, All-head, All-tail}
use Rattle.std.proofs.lemmas.List.Folds.{list_any-append}
use Rattle.ps_world.specs.CondViews.{cond_tree}
use Rattle.ps_world.specs.ExprViews.{expr_tree}
use Rattle.ps_world.specs.Knowledge.{ground, same_fact, value_in}
use Rattle.ps_world.specs.declared.names.Name.{Name}
use Rattle.ps_world.specs.declared.facts.Fact.{Fact as GroundFact}
use Rattle.ps_world.specs.declared.schemas.Lifted.{Lifted}
use Rattle.ps_world.specs.declared.actions.Effect.{Effect}
use Rattle.ps_world.specs.declared.actions.Effect.TheVariants.{Add, Delete, Number}
use Rattle.ps_world.specs.declared.actions.Guarded.{Guarded}
use Rattle.ps_world.specs.declared.actions.Guarded.TheVariants.{Plain, When}
use Rattle.ps_world.specs.declared.actions.Spread.{Spread}
use Rattle.ps_world.specs.declared.actions.Spread.TheVariants.{Once, ForAll}
use Rattle.ps_world.specs.declared.domains.Domain.{Domain}
use Rattle.ps_world.specs.declared.known.Knowledge.{Knowledge}
use Rattle.ps_action.specs.Bindings.{bindings}
use Rattle.ps_action.specs.Effects.{flat, flat_guarded, flat_spread}
use Rattle.ps_action.specs.Grounding.{put_effect, put_lifted}
use Rattle.ps_action.specs.Places.{closed, has_var, place_of, places_meet}
use Rattle.ps_action.specs.Things.{Thing, a_fact, a_value, holds_thing, is_met}
use Rattle.ps_action.specs.Touching.{changed_by_effect, changed_by_guarded, changed_by_spread, read_by, read_by_effect, read_by_guarded, read_by_spread}
use Rattle.ps_action.specs.Truth.{is_true_with}
use Rattle.ps_action.specs.Values.{value}
use Rattle.ps_action.specs.declared.touched.Touched.{Touched}
use Rattle.ps_action.specs.declared.touched.Touched.TheVariants.{Fact, Value, Facts, Values, Instances}
use Rattle.ps_action.proofs.Contained.{fact_same, or_cases}
use Rattle.ps_action.proofs.Grounded.{ground_put_in, tree_put, value_put_in}
use Rattle.ps_action.proofs.Standing.{alone, in_place}
use Rattle.ps_eval.proofs.Reading.{in_front, in_rest, same_value, same_value_in}
use Rattle.ps_eval.specs.Laws.{Agree}

-- ---- right sides and old values

-- where an effect gives a number, its right side is worth the same in both, and so is the value before
abbrev pub Even : Knowledge → Knowledge → Effect → Type 0
Even one other (Add l) = Unit {0}
Even one other (Delete l) = Unit {0}
Even one other (Number how l x) = (value one (expr_tree x) ≡ value other (expr_tree x)) × (value_in one (ground l) ≡ value_in other (ground l))

module _ {A : Type 0} (P : A → Type 0) where
  both_all : (xs ys : List A) → All P xs → All P ys → All P (xs ++ ys)
  both_all [] ys h g = g
  both_all (x ∷ xs) ys h g = All-cons P x (xs ++ ys) (All-head P x xs h) (both_all xs ys (All-tail P x xs h) g)

  if_all : (b : Bool) (xs : List A) → All P xs → All P (if b then xs else [])
  if_all true xs h = h
  if_all false xs h = All-nil P

module _ (d : Domain) (one other : Knowledge) where
  even_effect : (env : List Name) (e : Effect) → All (Agree one other) (read_by_effect e) → Agree one other (changed_by_effect e) → Even one other (put_effect env e)
  even_effect env (Add l) h c = tt
  even_effect env (Delete l) h c = tt
  even_effect env (Number how l x) h c = (
    ap (value one) (tree_put env x) ∙ value_put_in one env (expr_tree x) ∙ same_value d one other env (expr_tree x) h
        ∙ sym (ap (value other) (tree_put env x) ∙ value_put_in other env (expr_tree x)),
    ap (value_in one) (ground_put_in env l) ∙ same_value_in d one other env l c ∙ sym (ap (value_in other) (ground_put_in env l)),
  )

  even_effects : (env : List Name) (es : List Effect) → All (Agree one other) (flat_map read_by_effect es) → All (Agree one other) (map changed_by_effect es) → All (Even one other) (map (put_effect env) es)
  even_effects env [] h c = All-nil (Even one other)
  even_effects env (e ∷ es) h c =
      All-cons (Even one other) (put_effect env e) (map (put_effect env) es)
      (even_effect env e (in_front (Agree one other) (read_by_effect e) (flat_map read_by_effect es) h) (All-head (Agree one other) (changed_by_effect e) (map changed_by_effect es) c))
      (even_effects env es (in_rest (Agree one other) (read_by_effect e) (flat_map read_by_effect es) h) (All-tail (Agree one other) (changed_by_effect e) (map changed_by_effect es) c))

  even_guarded : (env : List Name) (g : Guarded) → All (Agree one other) (read_by_guarded g) → All (Agree one other) (changed_by_guarded g) → All (Even one other) (flat_guarded d one env g)
  even_guarded env (Plain e) h c = All-cons (Even one other) (put_effect env e) [] (even_effect env e h (All-head (Agree one other) (changed_by_effect e) [] c)) (All-nil (Even one other))
  even_guarded env (When w es) h c =
      if_all (Even one other) (is_true_with d one env (cond_tree w)) (map (put_effect env) es)
      (even_effects env es (in_rest (Agree one other) (read_by (cond_tree w)) (flat_map read_by_effect es) h) c)

  even_guardeds : (env : List Name) (gs : List Guarded) → All (Agree one other) (flat_map read_by_guarded gs) → All (Agree one other) (flat_map changed_by_guarded gs) → All (Even one other) (flat_map (flat_guarded d one env) gs)
  even_guardeds env [] h c = All-nil (Even one other)
  even_guardeds env (g ∷ gs) h c =
      both_all (Even one other) (flat_guarded d one env g) (flat_map (flat_guarded d one env) gs)
      (even_guarded env g (in_front (Agree one other) (read_by_guarded g) (flat_map read_by_guarded gs) h) (in_front (Agree one other) (changed_by_guarded g) (flat_map changed_by_guarded gs) c))
      (even_guardeds env gs (in_rest (Agree one other) (read_by_guarded g) (flat_map read_by_guarded gs) h) (in_rest (Agree one other) (changed_by_guarded g) (flat_map changed_by_guarded gs) c))

  even_bindings : (envs : List (List Name)) (gs : List Guarded) → All (Agree one other) (flat_map read_by_guarded gs) → All (Agree one other) (flat_map changed_by_guarded gs) → All (Even one other) (flat_map (λ env. flat_map (flat_guarded d one env) gs) envs)
  even_bindings [] gs h c = All-nil (Even one other)
  even_bindings (env ∷ envs) gs h c =
      both_all (Even one other) (flat_map (flat_guarded d one env) gs) (flat_map (λ e. flat_map (flat_guarded d one e) gs) envs)
      (even_guardeds env gs h c) (even_bindings envs gs h c)

  even_spread : (s : Spread) → All (Agree one other) (read_by_spread s) → All (Agree one other) (changed_by_spread s) → All (Even one other) (flat_spread d one s)
  even_spread (Once g) h c = even_guarded [] g h c
  even_spread (ForAll ps gs) h c = even_bindings (bindings d one.instances ps []) gs (All-tail (Agree one other) Instances (flat_map read_by_guarded gs) h) c

  pub evens : (es : List Spread) → All (Agree one other) (flat_map read_by_spread es) → All (Agree one other) (flat_map changed_by_spread es) → All (Even one other) (flat d one es)
  evens [] h c = All-nil (Even one other)
  evens (s ∷ es) h c =
      both_all (Even one other) (flat_spread d one s) (flat d one es)
      (even_spread s (in_front (Agree one other) (read_by_spread s) (flat_map read_by_spread es) h) (in_front (Agree one other) (changed_by_spread s) (flat_map changed_by_spread es) c))
      (evens es (in_rest (Agree one other) (read_by_spread s) (flat_map read_by_spread es) h) (in_rest (Agree one other) (changed_by_spread s) (flat_map changed_by_spread es) c))

-- ---- what they change is named

-- whether an effect changes this
abbrev pub alters : Thing → Effect → Bool
alters (a_fact f) (Add l) = same_fact f (ground l)
alters (a_fact f) (Delete l) = same_fact f (ground l)
alters (a_value f) (Number how l x) = same_fact f (ground l)
alters x e = false

pub met_front : (x : Thing) (xs ys : List Touched) → is_met x xs ≡ true → is_met x (xs ++ ys) ≡ true
met_front x xs ys e = list_any-append (holds_thing x) xs ys ∙ or_left (is_met x xs) (is_met x ys) e

pub met_rest : (x : Thing) (xs ys : List Touched) → is_met x ys ≡ true → is_met x (xs ++ ys) ≡ true
met_rest x xs ys e = list_any-append (holds_thing x) xs ys ∙ or_right (is_met x xs) (is_met x ys) e

any_parts : {A : Type 0} (p : A → Bool) (xs ys : List A) → list_any p (xs ++ ys) ≡ true → (list_any p xs ≡ true) ⊎ (list_any p ys ≡ true)
any_parts p xs ys e = or_cases (list_any p xs) (list_any p ys) (sym (list_any-append p xs ys) ∙ e)

any_if : {A : Type 0} (p : A → Bool) (b : Bool) (xs : List A) → list_any p (if b then xs else []) ≡ true → list_any p xs ≡ true
any_if p true xs e = e
any_if p false xs e = absurd (cc)

fact_named : (f : GroundFact) (env : List Name) (l : Lifted) (b : Bool) → has_var l ≡ b → same_fact f (ground (put_lifted env l)) ≡ true → holds_thing (a_fact f) (if b then Facts (place_of l) else Fact (ground l)) ≡ true
fact_named f env l true v e = ap (λ g. places_meet (place_of l) (closed g)) (fact_same f (ground (put_lifted env l)) e ∙ ground_put_in env l) ∙ in_place env l
fact_named f env l false v e = ap (same_fact f) (sym (ground_put_in env l ∙ alone env l v)) ∙ e

value_named : (f : GroundFact) (env : List Name) (l : Lifted) (b : Bool) → has_var l ≡ b → same_fact f (ground (put_lifted env l)) ≡ true → holds_thing (a_value f) (if b then Values (place_of l) else Value (ground l)) ≡ true
value_named f env l true v e = ap (λ g. places_meet (place_of l) (closed g)) (fact_same f (ground (put_lifted env l)) e ∙ ground_put_in env l) ∙ in_place env l
value_named f env l false v e = ap (same_fact f) (sym (ground_put_in env l ∙ alone env l v)) ∙ e

module _ (d : Domain) (k : Knowledge) (x : Thing) where
  altered_one : (y : Thing) (env : List Name) (e : Effect) → alters y (put_effect env e) ≡ true → holds_thing y (changed_by_effect e) ≡ true
  altered_one (a_fact f) env (Add l) h = fact_named f env l (has_var l) refl h
  altered_one (a_fact f) env (Delete l) h = fact_named f env l (has_var l) refl h
  altered_one (a_value f) env (Number how l r) h = value_named f env l (has_var l) refl h
  altered_one y env e h = absurd (cc)

  altered_effects : (env : List Name) (es : List Effect) → list_any (alters x) (map (put_effect env) es) ≡ true → is_met x (map changed_by_effect es) ≡ true
  altered_effects env [] e = absurd (cc)
  altered_effects env (f ∷ es) e =
      elim (or_cases (alters x (put_effect env f)) (list_any (alters x) (map (put_effect env) es)) e) [
        | inl here ↦ or_left (holds_thing x (changed_by_effect f)) (is_met x (map changed_by_effect es)) (altered_one x env f here)
        | inr later ↦ or_right (holds_thing x (changed_by_effect f)) (is_met x (map changed_by_effect es)) (altered_effects env es later)
      ]

  altered_guarded : (env : List Name) (g : Guarded) → list_any (alters x) (flat_guarded d k env g) ≡ true → is_met x (changed_by_guarded g) ≡ true
  altered_guarded env (Plain f) e = altered_effects env (f ∷ []) e
  altered_guarded env (When c es) e = altered_effects env es (any_if (alters x) (is_true_with d k env (cond_tree c)) (map (put_effect env) es) e)

  altered_guardeds : (env : List Name) (gs : List Guarded) → list_any (alters x) (flat_map (flat_guarded d k env) gs) ≡ true → is_met x (flat_map changed_by_guarded gs) ≡ true
  altered_guardeds env [] e = absurd (cc)
  altered_guardeds env (g ∷ gs) e =
      elim (any_parts (alters x) (flat_guarded d k env g) (flat_map (flat_guarded d k env) gs) e) [
        | inl here ↦ met_front x (changed_by_guarded g) (flat_map changed_by_guarded gs) (altered_guarded env g here)
        | inr later ↦ met_rest x (changed_by_guarded g) (flat_map changed_by_guarded gs) (altered_guardeds env gs later)
      ]

  altered_bindings : (envs : List (List Name)) (gs : List Guarded) → list_any (alters x) (flat_map (λ env. flat_map (flat_guarded d k env) gs) envs) ≡ true → is_met x (flat_map changed_by_guarded gs) ≡ true
  altered_bindings [] gs e = absurd (cc)
  altered_bindings (env ∷ envs) gs e =
      elim (any_parts (alters x) (flat_map (flat_guarded d k env) gs) (flat_map (λ v. flat_map (flat_guarded d k v) gs) envs) e) [
        | inl here ↦ altered_guardeds env gs here
        | inr later ↦ altered_bindings envs gs later
      ]

  altered_spread : (s : Spread) → list_any (alters x) (flat_spread d k s) ≡ true → is_met x (changed_by_spread s) ≡ true
  altered_spread (Once g) e = altered_guarded [] g e
  altered_spread (ForAll ps gs) e = altered_bindings (bindings d k.instances ps []) gs e

  pub altered : (es : List Spread) → list_any (alters x) (flat d k es) ≡ true → is_met x (flat_map changed_by_spread es) ≡ true
  altered [] e = absurd (cc)
  altered (s ∷ es) e =
      elim (any_parts (alters x) (flat_spread d k s) (flat d k es) e) [
        | inl here ↦ met_front x (changed_by_spread s) (flat_map changed_by_spread es) (altered_spread s here)
        | inr later ↦ met_rest x (changed_by_spread s) (flat_map changed_by_spread es) (altered es later)
      ]
