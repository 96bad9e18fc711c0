-- Facts of predicates that no action adds: those of them that aren't known at first never are.
use Rattle.std.specs.Prelude.{◌≡◌, ℕ, Bool, true, false, nat_le, Option, Some, None, List, ◌++◌, filter_map, flat_map}
use Rattle.std.specs.List.{list_any}
use Rattle.ps_world.specs.Knowledge.{same_fact}
use Rattle.ps_world.specs.Names.{same_name}
use Rattle.ps_world.specs.declared.actions.ActionDef.{ActionDef}
use Rattle.ps_world.specs.declared.actions.Effect.{Effect}
use Rattle.ps_world.specs.declared.actions.Effect.TheVariants.{Add, Delete, Number}
use Rattle.ps_world.specs.declared.actions.Guarded.{Guarded}
use Rattle.ps_world.specs.declared.actions.Spread.{Spread}
use Rattle.ps_world.specs.declared.actions.Spread.TheVariants.{Once, ForAll}
use Rattle.ps_world.specs.declared.domains.Domain.{Domain}
use Rattle.ps_world.specs.declared.facts.Fact.{Fact}
use Rattle.ps_world.specs.declared.known.Knowledge.{Knowledge}
use Rattle.ps_world.specs.declared.names.Name.{Name}
use Rattle.ps_world.specs.declared.schemas.Term.{Term}
use Rattle.ps_world.specs.declared.schemas.Term.TheVariants.{Var, Const}
use Rattle.ps_ground.specs.Moves.{grounds}
use Rattle.ps_ground.specs.Atoms.{adds, effects_in}

-- the predicate of the fact that an effect adds, if it adds one
abbrev pub head_added : Effect → Option Name
head_added (Add l) = Some l.head
head_added (Delete l) = None
head_added (Number how l x) = None

-- the predicates of the facts that a part may add
abbrev pub heads_in_part : Guarded → List Name
heads_in_part g = filter_map head_added (effects_in g)

-- those of the facts that what stands in a list of effects may add
abbrev pub heads_in : Spread → List Name
heads_in (Once g) = heads_in_part g
heads_in (ForAll ps gs) = flat_map heads_in_part gs

-- the predicates of the facts that an action may add
abbrev pub heads_added : ActionDef → List Name
heads_added a = flat_map heads_in a.effects.at_start ++ flat_map heads_in a.effects.at_end

-- the predicates of the facts that some action of a domain may add
abbrev pub all_heads_added : Domain → List Name
all_heads_added d = flat_map heads_added d.actions

-- the facts that may ever be known: those that are known at first, and those that a ground action may add
abbrev pub possible_facts : Domain → Knowledge → List Fact
possible_facts d k = k.facts ++ flat_map (adds d k) (grounds d k)

-- a fact of none of these predicates that is none of these facts is none of those
abbrev pub AreFixed : List Name → List Fact → List Fact → Type 0
AreFixed heads fixed facts = (f : Fact) → list_any (same_name f.head) heads ≡ false → list_any (same_fact f) fixed ≡ false → list_any (same_fact f) facts ≡ false

-- whether a term is no variable before this one
abbrev pub is_from : ℕ → Term → Bool
is_from n (Var i) = nat_le n i
is_from n (Const name) = true
