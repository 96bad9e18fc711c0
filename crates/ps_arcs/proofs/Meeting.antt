-- What is the same at each thing is the same at each place, and back.
use Rattle.std.proofs.Common.{◌≡◌, true, List, [], ◌∷◌, ◌++◌, All, flat_map, map, refl, ap, sym, subst, inl, inr}
use Rattle.std.specs.Cmp.{first_so, second_so}
use Rattle.std.specs.List.{list_all}
use Rattle.std.specs.Map.{lookup}
use Rattle.std.proofs.lemmas.Bool.{and_from, or_left, or_right}
use Rattle.std.proofs.lemmas.List.Elements.{All-nil, All-cons, All-head, All-tail}
use Rattle.ps_world.specs.Names.{same_name}
use Rattle.ps_world.specs.declared.actions.Effect.{Effect}
use Rattle.ps_world.specs.declared.actions.Guarded.{Guarded}
use Rattle.ps_world.specs.declared.actions.Guarded.TheVariants.{Plain, When}
use Rattle.ps_world.specs.declared.actions.Spread.{Spread}
use Rattle.ps_world.specs.declared.actions.Spread.TheVariants.{Once, ForAll}
use Rattle.ps_world.specs.declared.known.Knowledge.{Knowledge}
use Rattle.ps_action.proofs.Contained.{fact_itself, fact_same, or_cases}
use Rattle.ps_action.proofs.Meeting.{effect_thing}
use Rattle.ps_action.specs.declared.acts.GroundAction.{GroundAction}
use Rattle.ps_action.specs.declared.touched.Touched.{Touched}
use Rattle.ps_action.specs.declared.touched.Touched.TheVariants.{Fact, Value, Instance, Facts, Values, Instances}
use Rattle.ps_action.specs.Arcs.{changes, is_thing}
use Rattle.ps_action.specs.Things.{Thing, a_fact, a_value, holds_thing, is_met, touched}
use Rattle.ps_action.specs.Touching.{changed_by_effect, changed_by_guarded, changed_by_spread}
use Rattle.ps_eval.specs.Laws.{Agree}

-- ---- things and places

module _ (k l : Knowledge) where
  at_touched : (t : Touched) → is_thing t ≡ true → ((x : Thing) → holds_thing x t ≡ true → Agree k l (touched x)) → Agree k l t
  at_touched (Fact f) e h = h (a_fact f) (fact_itself f)
  at_touched (Value f) e h = h (a_value f) (fact_itself f)
  at_touched (Instance n) e h = absurd (cc)
  at_touched (Facts p) e h = λ f met. h (a_fact f) met
  at_touched (Values p) e h = λ f met. h (a_value f) met
  at_touched Instances e h = absurd (cc)

  -- what is the same at each thing that a list meets is the same at all that is in the list
  pub each_so : (ts : List Touched) → list_all is_thing ts ≡ true → ((x : Thing) → is_met x ts ≡ true → Agree k l (touched x)) → All (Agree k l) ts
  each_so [] e h = All-nil (Agree k l)
  each_so (t ∷ ts) e h =
      All-cons (Agree k l) t ts (at_touched t (first_so (is_thing t) (list_all is_thing ts) e) (λ x met. h x (or_left (holds_thing x t) (is_met x ts) met)))
      (each_so ts (second_so (is_thing t) (list_all is_thing ts) e) (λ x met. h x (or_right (holds_thing x t) (is_met x ts) met)))

  at_thing : (x : Thing) (t : Touched) → holds_thing x t ≡ true → Agree k l t → Agree k l (touched x)
  at_thing (a_fact f) (Fact g) e h = subst (λ x. Agree k l (Fact x)) (sym (fact_same f g e)) h
  at_thing (a_fact f) (Facts p) e h = h f e
  at_thing (a_value f) (Value g) e h = subst (λ x. Agree k l (Value x)) (sym (fact_same f g e)) h
  at_thing (a_value f) (Values p) e h = h f e
  at_thing x t e h = absurd (cc)

  -- what is the same at all that is in a list is the same at each thing that the list meets
  pub found_so : (ts : List Touched) → All (Agree k l) ts → (x : Thing) → is_met x ts ≡ true → Agree k l (touched x)
  found_so [] h x e = absurd (cc)
  found_so (t ∷ ts) h x e =
      elim (or_cases (holds_thing x t) (is_met x ts) e) [
        | inl here ↦ at_thing x t here (All-head (Agree k l) t ts h)
        | inr later ↦ found_so ts (All-tail (Agree k l) t ts h) x later
      ]

  -- with the same instances, what is the same at each thing is the same at all that can be touched
  pub all_told : k.instances ≡ l.instances → ((x : Thing) → Agree k l (touched x)) → (t : Touched) → Agree k l t
  all_told same h (Fact f) = h (a_fact f)
  all_told same h (Value f) = h (a_value f)
  all_told same h (Instance n) = ap (λ is. lookup (same_name n) is) same
  all_told same h (Facts p) = λ f at. h (a_fact f)
  all_told same h (Values p) = λ f at. h (a_value f)
  all_told same h Instances = same

-- ---- what is changed are things and places of things

all_both : (xs ys : List Touched) → list_all is_thing xs ≡ true → list_all is_thing ys ≡ true → list_all is_thing (xs ++ ys) ≡ true
all_both [] ys e f = f
all_both (x ∷ xs) ys e f =
    and_from (is_thing x) (list_all is_thing (xs ++ ys)) (first_so (is_thing x) (list_all is_thing xs) e) (all_both xs ys (second_so (is_thing x) (list_all is_thing xs) e) f)

effects_things : (es : List Effect) → list_all is_thing (map changed_by_effect es) ≡ true
effects_things [] = refl
effects_things (e ∷ es) = and_from (is_thing (changed_by_effect e)) (list_all is_thing (map changed_by_effect es)) (effect_thing e) (effects_things es)

guarded_things : (g : Guarded) → list_all is_thing (changed_by_guarded g) ≡ true
guarded_things (Plain e) = effects_things (e ∷ [])
guarded_things (When c es) = effects_things es

guardeds_things : (gs : List Guarded) → list_all is_thing (flat_map changed_by_guarded gs) ≡ true
guardeds_things [] = refl
guardeds_things (g ∷ gs) = all_both (changed_by_guarded g) (flat_map changed_by_guarded gs) (guarded_things g) (guardeds_things gs)

spread_things : (s : Spread) → list_all is_thing (changed_by_spread s) ≡ true
spread_things (Once g) = guarded_things g
spread_things (ForAll ps gs) = guardeds_things gs

spreads_things : (es : List Spread) → list_all is_thing (flat_map changed_by_spread es) ≡ true
spreads_things [] = refl
spreads_things (s ∷ es) = all_both (changed_by_spread s) (flat_map changed_by_spread es) (spread_things s) (spreads_things es)

pub changes_things : (a : GroundAction) → list_all is_thing (changes a) ≡ true
changes_things a =
    all_both (flat_map changed_by_spread a.effects.at_start) (flat_map changed_by_spread a.effects.at_end) (spreads_things a.effects.at_start) (spreads_things a.effects.at_end)
