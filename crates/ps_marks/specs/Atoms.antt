-- What conditions ask for without a choice, and what adds can make.
use Rattle.std.specs.Prelude.{◌&&◌, is_none, Option, None, Some, List, [], ◌∷◌, ◌++◌, filter, flat_map, map, option_to_list}
use Rattle.ps_world.specs.Trees.{CondTree, CondTrees, all_of, any_of, no, implied, holds, same, compares, is_a, for_some, for_all, none, more, cond_trees}
use Rattle.ps_world.specs.Bound.{ground_in}
use Rattle.ps_world.specs.Knowledge.{fault_of_fact, predicate_of}
use Rattle.ps_world.specs.declared.actions.Effect.{Effect}
use Rattle.ps_world.specs.declared.actions.Effect.TheVariants.{Add, Delete, Number}
use Rattle.ps_world.specs.declared.actions.Guarded.{Guarded}
use Rattle.ps_world.specs.declared.actions.Guarded.TheVariants.{Plain, When}
use Rattle.ps_world.specs.declared.actions.Spread.{Spread}
use Rattle.ps_world.specs.declared.actions.Spread.TheVariants.{Once, ForAll}
use Rattle.ps_world.specs.declared.domains.Decl.{Decl}
use Rattle.ps_world.specs.declared.domains.Domain.{Domain}
use Rattle.ps_world.specs.declared.facts.Fact.{Fact}
use Rattle.ps_world.specs.declared.known.Knowledge.{Knowledge}
use Rattle.ps_world.specs.declared.names.Name.{Name}
use Rattle.ps_world.specs.declared.schemas.Lifted.{Lifted}
use Rattle.ps_action.specs.Effects.{added_by}
use Rattle.ps_action.specs.Grounding.{picks}
use Rattle.ps_action.specs.Places.{closed, place_of, places_meet}
use Rattle.ps_action.specs.declared.acts.GroundAction.{GroundAction}

-- ---- what conditions ask for

abbrev mutual
  -- the atoms of a condition: its facts that stand under `and` alone
  pub atoms : CondTree → List Fact
  atoms (all_of cs) = atoms_of_all cs
  atoms (any_of cs) = []
  atoms (no c) = []
  atoms (implied a b) = []
  atoms (holds l) = ground_in [] l ∷ []
  atoms (same s t) = []
  atoms (compares rel x y) = []
  atoms (is_a t kind) = []
  atoms (for_some ps c) = []
  atoms (for_all ps c) = []

  -- the same of several
  pub atoms_of_all : CondTrees → List Fact
  atoms_of_all none = []
  atoms_of_all (more c cs) = atoms c ++ atoms_of_all cs

-- the atoms of a list of conditions
abbrev pub atoms_of : List CondTree → List Fact
atoms_of cs = atoms_of_all (cond_trees cs)

-- ---- what adds can make

-- the names of the instances
abbrev pub names_known : Knowledge → List Name
names_known k = map (λ i. i.0) k.instances

-- the facts of a head with instances as arguments, as many as it declares, whether or not these fit
abbrev pub facts_by : Knowledge → Name → Option Decl → List Fact
facts_by k head None = []
facts_by k head (Some decl) = map (λ args. record { head = head; args = args }) (picks (map (λ p. names_known k) decl.params))

abbrev pub facts_over : Domain → Knowledge → Name → List Fact
facts_over d k head = facts_by k head (predicate_of d head)

-- the facts of declared arguments that the place of a head with terms meets
abbrev pub facts_at : Domain → Knowledge → Lifted → List Fact
facts_at d k l = filter (λ f. places_meet (place_of l) (closed f) && is_none (fault_of_fact d k f)) (facts_over d k l.head)

-- the facts that an effect can make where it stands under a condition or for each choice of instances: an add each of those at its place
abbrev pub makes_widely : Domain → Knowledge → Effect → List Fact
makes_widely d k (Add l) = facts_at d k l
makes_widely d k (Delete l) = []
makes_widely d k (Number how l x) = []

-- those that a part can make where it stands for each choice of instances, whether or not its condition holds
abbrev pub makes_each : Domain → Knowledge → Guarded → List Fact
makes_each d k (Plain e) = makes_widely d k e
makes_each d k (When c es) = flat_map (makes_widely d k) es

-- those that a part can make where it stands once: with no condition an add makes its own fact
abbrev pub makes_once : Domain → Knowledge → Guarded → List Fact
makes_once d k (Plain e) = option_to_list (added_by e)
makes_once d k (When c es) = flat_map (makes_widely d k) es

-- those that what stands in a list of effects can make
abbrev pub makes_spread : Domain → Knowledge → Spread → List Fact
makes_spread d k (Once g) = makes_once d k g
makes_spread d k (ForAll ps gs) = flat_map (makes_each d k) gs

-- the facts that a list of effects can make
abbrev pub makes : Domain → Knowledge → List Spread → List Fact
makes d k es = flat_map (makes_spread d k) es

-- the facts that a ground action can make, at its start and then at its end
abbrev pub can_make : Domain → Knowledge → GroundAction → List Fact
can_make d k g = makes d k g.effects.at_start ++ makes d k g.effects.at_end
