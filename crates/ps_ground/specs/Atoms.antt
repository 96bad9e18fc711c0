-- Atoms: the facts that the states of a search may have.
use Rattle.std.specs.Prelude.{◌≡◌, false, List, [], ◌∷◌, ◌++◌, filter_map, flat_map}
use Rattle.std.specs.List.{list_any}
use Rattle.ps_world.specs.Bound.{ground_in}
use Rattle.ps_world.specs.Knowledge.{same_fact}
use Rattle.ps_world.specs.declared.actions.Effect.{Effect}
use Rattle.ps_world.specs.declared.actions.Effect.TheVariants.{Add, Delete, Number}
use Rattle.ps_world.specs.declared.actions.Guarded.{Guarded}
use Rattle.ps_world.specs.declared.actions.Guarded.TheVariants.{Plain, When}
use Rattle.ps_world.specs.declared.actions.Spread.{Spread}
use Rattle.ps_world.specs.declared.actions.Spread.TheVariants.{Once, ForAll}
use Rattle.ps_world.specs.declared.domains.Domain.{Domain}
use Rattle.ps_world.specs.declared.facts.Fact.{Fact}
use Rattle.ps_world.specs.declared.known.Knowledge.{Knowledge}
use Rattle.ps_world.specs.declared.names.Name.{Name}
use Rattle.ps_action.specs.Bindings.{bindings}
use Rattle.ps_action.specs.Effects.{added_by}
use Rattle.ps_action.specs.declared.acts.GroundAction.{GroundAction}
use Rattle.ps_ground.specs.States.{State}

-- the fact that an effect adds where variables stand for these names, if it adds one
abbrev pub added_in : List Name → Effect → List Fact
added_in env (Add l) = ground_in env l ∷ []
added_in env (Delete l) = []
added_in env (Number how l x) = []

-- the effects of a part, whether or not its condition holds
abbrev pub effects_in : Guarded → List Effect
effects_in (Plain e) = e ∷ []
effects_in (When c es) = es

-- the facts that a part may add where variables stand for these names
abbrev pub may_add_part : List Name → Guarded → List Fact
may_add_part env g = flat_map (added_in env) (effects_in g)

-- the facts that what stands in a list of effects may add where variables stand for these names, for each choice of instances
abbrev pub may_add_spread : Domain → Knowledge → List Name → Spread → List Fact
may_add_spread d k env (Once g) = may_add_part env g
may_add_spread d k env (ForAll ps gs) = flat_map (λ e. flat_map (may_add_part e) gs) (bindings d k.instances ps env)

-- the facts that a list of effects may add where variables stand for these names: those of the effects under conditions too
abbrev pub may_add : Domain → Knowledge → List Name → List Spread → List Fact
may_add d k env es = flat_map (may_add_spread d k env) es

-- the facts that a ground action may add, at its start and then at its end
abbrev pub adds : Domain → Knowledge → GroundAction → List Fact
adds d k g = may_add d k [] g.effects.at_start ++ may_add d k [] g.effects.at_end

-- each of these facts is an atom
abbrev pub AreAtoms : List Fact → List Fact → Type 0
AreAtoms atoms fs = (f : Fact) → list_any (same_fact f) atoms ≡ false → list_any (same_fact f) fs ≡ false

-- each fact that one of these effects adds is an atom
abbrev pub AddAtoms : List Fact → List Effect → Type 0
AddAtoms atoms es = AreAtoms atoms (filter_map added_by es)

-- each fact that a list of effects may add is
abbrev pub MayAddAtoms : Domain → Knowledge → List Fact → List Spread → Type 0
MayAddAtoms d k atoms es = AreAtoms atoms (may_add d k [] es)

-- each fact of a state is
abbrev pub IsOver : List Fact → State → Type 0
IsOver atoms s = AreAtoms atoms s.facts
