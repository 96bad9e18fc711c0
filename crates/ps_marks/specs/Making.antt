-- Adds as a list of what they can make.
use Rattle.std.specs.Prelude.{List, [], ◌∷◌, flat_map}
use Rattle.ps_world.specs.Knowledge.{ground}
use Rattle.ps_world.specs.declared.actions.Effect.{Effect}
use Rattle.ps_world.specs.declared.actions.Effect.TheVariants.{Add, Delete, Number}
use Rattle.ps_world.specs.declared.actions.Guarded.{Guarded}
use Rattle.ps_world.specs.declared.actions.Guarded.TheVariants.{Plain, When}
use Rattle.ps_world.specs.declared.actions.Spread.{Spread}
use Rattle.ps_world.specs.declared.actions.Spread.TheVariants.{Once, ForAll}
use Rattle.ps_world.specs.declared.domains.Domain.{Domain}
use Rattle.ps_world.specs.declared.facts.Fact.{Fact}
use Rattle.ps_world.specs.declared.known.Knowledge.{Knowledge}
use Rattle.ps_marks.specs.declared.making.Made.{Made}
use Rattle.ps_marks.specs.declared.making.Made.TheVariants.{Own, Wide}
use Rattle.ps_marks.specs.Atoms.{facts_at}

-- the facts that an add can make
abbrev pub facts_made : Domain → Knowledge → Made → List Fact
facts_made d k (Own f) = f ∷ []
facts_made d k (Wide l) = facts_at d k l

-- the facts that several adds can make
abbrev pub made_by : Domain → Knowledge → List Made → List Fact
made_by d k adds = flat_map (facts_made d k) adds

-- an add that stands once, with no condition
abbrev pub own_add : Effect → List Made
own_add (Add l) = Own (ground l) ∷ []
own_add (Delete l) = []
own_add (Number how l x) = []

-- an add that stands under a condition or for each choice of instances
abbrev pub wide_add : Effect → List Made
wide_add (Add l) = Wide l ∷ []
wide_add (Delete l) = []
wide_add (Number how l x) = []

-- the adds of a part that stands for each choice of instances
abbrev pub adds_each : Guarded → List Made
adds_each (Plain e) = wide_add e
adds_each (When c es) = flat_map wide_add es

-- the adds of a part that stands once
abbrev pub adds_once : Guarded → List Made
adds_once (Plain e) = own_add e
adds_once (When c es) = flat_map wide_add es

-- the adds of what stands in a list of effects
abbrev pub adds_in : Spread → List Made
adds_in (Once g) = adds_once g
adds_in (ForAll ps gs) = flat_map adds_each gs

-- the adds of a list of effects
abbrev pub adds_of : List Spread → List Made
adds_of es = flat_map adds_in es
