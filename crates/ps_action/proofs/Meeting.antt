-- Things that two lists meet, and lists that don't meet.
use Rattle.std.proofs.Common.{◌≡◌, Bool, true, false, List, [], ◌∷◌, filter, refl, sym, subst, ◌∙◌, inl, inr, arith}
use Rattle.std.specs.List.{list_all, list_any}
use Rattle.std.proofs.lemmas.Bool.{or_left, or_right}
use Rattle.std.proofs.lemmas.Bool.Decides.{nat_tests}
use Rattle.ps_world.specs.Knowledge.{same_fact}
use Rattle.ps_world.specs.declared.facts.Fact.{Fact as GroundFact}
use Rattle.ps_world.specs.declared.schemas.Lifted.{Lifted}
use Rattle.ps_world.specs.declared.actions.Effect.{Effect}
use Rattle.ps_world.specs.declared.actions.Effect.TheVariants.{Add, Delete, Number}
use Rattle.ps_action.specs.declared.places.Place.{Place}
use Rattle.ps_action.specs.declared.touched.Touched.{Touched}
use Rattle.ps_action.specs.declared.touched.Touched.TheVariants.{Fact, Value, Instance, Facts, Values, Instances}
use Rattle.ps_action.specs.Arcs.{is_thing, meet, meets}
use Rattle.ps_action.specs.Places.{closed, has_var, places_meet}
use Rattle.ps_action.specs.Things.{Thing, a_fact, a_value, holds_thing, is_met}
use Rattle.ps_action.specs.Touching.{changed_by_effect, fact_of, value_at}
use Rattle.ps_action.proofs.Contained.{fact_itself, fact_same, or_cases}
use Rattle.ps_action.proofs.Standing.{places_both, places_turned}

-- ---- two that hold one thing meet

same_both : (f g h : GroundFact) → same_fact f g ≡ true → same_fact f h ≡ true → same_fact g h ≡ true
same_both f g h e i = subst (λ x. same_fact x h ≡ true) (fact_same f g e) i

place_both : (f g : GroundFact) (p : Place) → same_fact f g ≡ true → places_meet p (closed f) ≡ true → places_meet p (closed g) ≡ true
place_both f g p e i = subst (λ x. places_meet p (closed x) ≡ true) (fact_same f g e) i

pub both_met : (x : Thing) (s t : Touched) → holds_thing x s ≡ true → holds_thing x t ≡ true → meets s t ≡ true
both_met (a_fact f) (Fact g) (Fact h) e i = same_both f g h e i
both_met (a_fact f) (Fact g) (Facts q) e i = place_both f g q e i
both_met (a_fact f) (Facts p) (Fact h) e i = place_both f h p i e
both_met (a_fact f) (Facts p) (Facts q) e i = places_both p q f e i
both_met (a_value f) (Value g) (Value h) e i = same_both f g h e i
both_met (a_value f) (Value g) (Values q) e i = place_both f g q e i
both_met (a_value f) (Values p) (Value h) e i = place_both f h p i e
both_met (a_value f) (Values p) (Values q) e i = places_both p q f e i
both_met x s t e i = absurd (cc)

-- a list in which a thing is met meets all that holds the thing
pub one_met : (x : Thing) (s : Touched) (ts : List Touched) → holds_thing x s ≡ true → is_met x ts ≡ true → list_any (meets s) ts ≡ true
one_met x s [] e i = absurd (cc)
one_met x s (t ∷ ts) e i =
    elim (or_cases (holds_thing x t) (is_met x ts) i) [
      | inl here ↦ or_left (meets s t) (list_any (meets s) ts) (both_met x s t e here)
      | inr later ↦ or_right (meets s t) (list_any (meets s) ts) (one_met x s ts e later)
    ]

-- lists in which one thing is met meet
pub lists_met : (x : Thing) (ss ts : List Touched) → is_met x ss ≡ true → is_met x ts ≡ true → meet ss ts ≡ true
lists_met x [] ts e i = absurd (cc)
lists_met x (s ∷ ss) ts e i =
    elim (or_cases (holds_thing x s) (is_met x ss) e) [
      | inl here ↦ or_left (list_any (meets s) ts) (meet ss ts) (one_met x s ts here i)
      | inr later ↦ or_right (list_any (meets s) ts) (meet ss ts) (lists_met x ss ts later i)
    ]

-- ---- meeting goes both ways

fact_turned : (f g : GroundFact) → same_fact f g ≡ true → same_fact g f ≡ true
fact_turned f g e = subst (λ x. same_fact x f ≡ true) (fact_same f g e) (fact_itself f)

pub meets_turned : (s t : Touched) → meets s t ≡ true → meets t s ≡ true
meets_turned (Fact f) (Fact g) e = fact_turned f g e
meets_turned (Fact f) (Facts q) e = e
meets_turned (Facts p) (Fact g) e = e
meets_turned (Facts p) (Facts q) e = sym (places_turned p q) ∙ e
meets_turned (Value f) (Value g) e = fact_turned f g e
meets_turned (Value f) (Values q) e = e
meets_turned (Values p) (Value g) e = e
meets_turned (Values p) (Values q) e = sym (places_turned p q) ∙ e
meets_turned (Instance m) (Instance n) e = grind (arith, nat_tests, e)
meets_turned (Instance m) Instances e = refl
meets_turned Instances (Instance n) e = refl
meets_turned Instances Instances e = refl
meets_turned s t e = absurd (cc)

-- ---- things and their places

things_by : (t : Touched) (ts : List Touched) (b : Bool) → is_thing t ≡ b → list_all is_thing (filter is_thing ts) ≡ true → list_all is_thing (filter is_thing (t ∷ ts)) ≡ true
things_by t ts true e h = rw (e, e) h
things_by t ts false e h = rw e h

pub only_things : (ts : List Touched) → list_all is_thing (filter is_thing ts) ≡ true
only_things [] = refl
only_things (t ∷ ts) = things_by t ts (is_thing t) refl (only_things ts)

fact_thing : (l : Lifted) (b : Bool) → has_var l ≡ b → is_thing (fact_of l) ≡ true
fact_thing l true e = rw e refl
fact_thing l false e = rw e refl

value_thing : (l : Lifted) (b : Bool) → has_var l ≡ b → is_thing (value_at l) ≡ true
value_thing l true e = rw e refl
value_thing l false e = rw e refl

-- what an effect changes is a thing or a place
pub effect_thing : (e : Effect) → is_thing (changed_by_effect e) ≡ true
effect_thing (Add l) = fact_thing l (has_var l) refl
effect_thing (Delete l) = fact_thing l (has_var l) refl
effect_thing (Number how l x) = value_thing l (has_var l) refl
