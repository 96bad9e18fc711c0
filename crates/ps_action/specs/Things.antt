-- Things, which are single facts and function terms, and what meets them.
use Rattle.std.specs.Prelude.{Bool, false, List}
use Rattle.std.specs.List.{list_any}
use Rattle.ps_world.specs.Knowledge.{same_fact}
use Rattle.ps_world.specs.declared.facts.Fact.{Fact}
use Rattle.ps_action.specs.declared.touched.Touched.{Touched}
use Rattle.ps_action.specs.declared.touched.Touched.TheVariants as to
use Rattle.ps_action.specs.Places.{closed, places_meet}

-- a thing: a fact, or a function term
pub data Thing : Type 0 where
  a_fact : Fact → Thing
  a_value : Fact → Thing

-- the thing as something that can change
abbrev pub touched : Thing → Touched
touched (a_fact f) = to.Fact f
touched (a_value f) = to.Value f

-- whether this is the thing, or a place at which it stands
abbrev pub holds_thing : Thing → Touched → Bool
holds_thing (a_fact f) (to.Fact g) = same_fact f g
holds_thing (a_fact f) (to.Facts p) = places_meet p (closed f)
holds_thing (a_value f) (to.Value g) = same_fact f g
holds_thing (a_value f) (to.Values p) = places_meet p (closed f)
holds_thing x t = false

-- whether one of these is
abbrev pub is_met : Thing → List Touched → Bool
is_met x ts = list_any (holds_thing x) ts
