-- What the adds of a list of effects can make is what the list can make.
use Rattle.std.proofs.Common.{◌≡◌, ◌&&◌, is_none, List, [], ◌∷◌, ◌++◌, flat_map, refl, ◌∙◌}
use Rattle.std.specs.Cmp.{both_ways, first_so, second_so}
use Rattle.std.proofs.lemmas.Grind.{flat_map-append}
use Rattle.std.proofs.lemmas.List.{append-nil}
use Rattle.ps_world.specs.Knowledge.{fault_of_fact}
use Rattle.ps_world.specs.declared.actions.Effect.{Effect}
use Rattle.ps_world.specs.declared.actions.Effect.TheVariants.{Add, Delete, Number}
use Rattle.ps_world.specs.declared.actions.Guarded.{Guarded}
use Rattle.ps_world.specs.declared.actions.Guarded.TheVariants.{Plain, When}
use Rattle.ps_world.specs.declared.actions.Spread.{Spread}
use Rattle.ps_world.specs.declared.actions.Spread.TheVariants.{Once, ForAll}
use Rattle.ps_world.specs.declared.domains.Domain.{Domain}
use Rattle.ps_world.specs.declared.facts.Fact.{Fact}
use Rattle.ps_world.specs.declared.known.Knowledge.{Knowledge}
use Rattle.ps_world.specs.declared.schemas.Lifted.{Lifted}
use Rattle.ps_action.specs.Places.{closed, place_of, places_meet}
use Rattle.ps_marks.specs.declared.making.Made.{Made}
use Rattle.ps_marks.specs.Atoms.{facts_at, facts_over, makes, makes_each, makes_once, makes_spread, makes_widely}
use Rattle.ps_marks.specs.Closures.{is_in}
use Rattle.ps_marks.specs.Making.{adds_each, adds_in, adds_of, adds_once, facts_made, made_by, wide_add}
use Rattle.ps_marks.proofs.Makes.{in_at}
use Rattle.ps_marks.proofs.Members.{in_filter}

module _ (d : Domain) (k : Knowledge) where
  -- a fact is among those at a place where it meets the place and is of declared arguments
  pub at_is : (l : Lifted) (x : Fact) → is_in (facts_at d k l) x ≡ (places_meet (place_of l) (closed x) && is_none (fault_of_fact d k x))
  at_is l x =
      let meets = places_meet (place_of l) (closed x) in
      let declared = is_none (fault_of_fact d k x) in
      both_ways (is_in (facts_at d k l) x) (meets && declared)
      (λ e. (in_filter (λ f. places_meet (place_of l) (closed f) && is_none (fault_of_fact d k f)) (facts_over d k l.head) x e).1)
      (λ e. in_at d k l x (first_so meets declared e) (second_so meets declared e))

  through : {A : Type 0} (g : A → List Made) (h : A → List Fact) → ((a : A) → made_by d k (g a) ≡ h a) → (parts : List A) → made_by d k (flat_map g parts) ≡ flat_map h parts
  through g h so [] = refl
  through g h so (a ∷ parts) = flat_map-append (facts_made d k) (g a) (flat_map g parts) ∙ (λ i. so a i ++ through g h so parts i)

  widely_is : (e : Effect) → made_by d k (wide_add e) ≡ makes_widely d k e
  widely_is (Add l) = append-nil (facts_at d k l)
  widely_is (Delete l) = refl
  widely_is (Number how l x) = refl

  each_is : (g : Guarded) → made_by d k (adds_each g) ≡ makes_each d k g
  each_is (Plain e) = widely_is e
  each_is (When c es) = through wide_add (makes_widely d k) widely_is es

  alone_is : (e : Effect) → made_by d k (adds_once (Plain e)) ≡ makes_once d k (Plain e)
  alone_is (Add l) = refl
  alone_is (Delete l) = refl
  alone_is (Number how l x) = refl

  once_is : (g : Guarded) → made_by d k (adds_once g) ≡ makes_once d k g
  once_is (Plain e) = alone_is e
  once_is (When c es) = through wide_add (makes_widely d k) widely_is es

  spread_is : (s : Spread) → made_by d k (adds_in s) ≡ makes_spread d k s
  spread_is (Once g) = once_is g
  spread_is (ForAll ps gs) = through adds_each (makes_each d k) each_is gs

  pub made_is : (es : List Spread) → made_by d k (adds_of es) ≡ makes d k es
  made_is es = through adds_in (makes_spread d k) spread_is es
