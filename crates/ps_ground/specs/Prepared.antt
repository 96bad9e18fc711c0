-- What prepared ground actions mean: their places are those of atoms.
use Rattle.std.specs.Prelude.{◌≡◌, ℕ, Bool, true, false, not, ◌&&◌, Option, Some, None, is_some, option_map, option_and_then, option_to_list, List, [], ◌∷◌, ◌++◌, filter, filter_map, fold, map, slice_get}
use Rattle.std.specs.List.{list_all, list_any}
use Rattle.std.specs.Option.{option_map_or}
use Rattle.std.specs.BTreeSet.{insert_key}
use Rattle.ps_world.specs.Facts.{fact_cmp}
use Rattle.ps_world.specs.Knowledge.{same_fact}
use Rattle.ps_world.specs.declared.actions.Effect.{Effect}
use Rattle.ps_world.specs.declared.actions.Effect.TheVariants.{Add, Delete, Number}
use Rattle.ps_world.specs.declared.actions.Guarded.{Guarded}
use Rattle.ps_world.specs.declared.actions.Guarded.TheVariants.{Plain, When}
use Rattle.ps_world.specs.declared.actions.Spread.{Spread}
use Rattle.ps_world.specs.declared.actions.Spread.TheVariants.{Once, ForAll}
use Rattle.ps_world.specs.declared.domains.Domain.{Domain}
use Rattle.ps_world.specs.declared.facts.Fact.{Fact}
use Rattle.ps_world.specs.declared.known.Knowledge.{Knowledge}
use Rattle.ps_world.specs.declared.names.Name.{Name}
use Rattle.ps_action.specs.Effects.{first_clash, flat}
use Rattle.ps_action.specs.Grounding.{put_effect}
use Rattle.ps_action.specs.Truth.{all_true}
use Rattle.ps_ground.specs.Independence.{HasFootprint}
use Rattle.ps_ground.specs.States.{State, at, changed, changed_flat, where_so}
use Rattle.ps_ground.specs.Moves.{Node}
use Rattle.ps_ground.specs.Atoms.{AddAtoms}
use Rattle.ps_ground.specs.declared.prepared.Change.{Change}
use Rattle.ps_ground.specs.declared.prepared.Change.TheVariants.{Flags, Effects, Spreads}
use Rattle.ps_ground.specs.declared.prepared.Prepared.{Prepared}
use Rattle.ps_ground.specs.declared.prepared.Test.{Test}

-- whether the atom at a place is known, if there is one
abbrev pub known_at : List Fact → State → ℕ → Bool
known_at atoms s i = option_map_or (λ f. list_any (same_fact f) s.facts) (slice_get atoms i) false

-- whether prepared conditions hold
abbrev pub passes : Domain → Knowledge → List Fact → Test → State → Bool
passes d k atoms t s = list_all (known_at atoms s) t.wanted.items && all_true d (at k s) t.others

-- a test of no conditions
pub record IsBareTest (t : Test) : Type 0 where
  pub wanted : t.wanted.items ≡ []
  pub others : t.others ≡ []

-- prepared with no conditions
pub record IsBare (p : Prepared) : Type 0 where
  pub start : IsBareTest p.start
  pub over : IsBareTest p.over
  pub end : IsBareTest p.end

-- the effects of a change, where it is of effects, add atoms alone in every state, and the first that clashes is at its place
abbrev pub IsSoundChange : Domain → Knowledge → List Fact → Change → Type 0
IsSoundChange d k atoms (Flags cleared set) = Unit {0}
IsSoundChange d k atoms (Effects es clash) = AddAtoms atoms es × (clash ≡ first_clash es)
IsSoundChange d k atoms (Spreads es) = (s : State) → AddAtoms atoms (flat d (at k s) es)

-- so it is with both changes of a prepared ground action, and its footprint has what it reads and changes
pub record IsSound (d : Domain) (k : Knowledge) (atoms : List Fact) (p : Prepared) : Type 0 where
  pub start : IsSoundChange d k atoms p.at_start
  pub end : IsSoundChange d k atoms p.at_end
  pub footprint : HasFootprint p

-- so it is with each of these
abbrev pub AreSound : Domain → Knowledge → List Fact → List Prepared → Type 0
AreSound d k atoms [] = Unit {0}
AreSound d k atoms (p ∷ ps) = IsSound d k atoms p × AreSound d k atoms ps

-- facts without the atom at a place
abbrev pub without_at : List Fact → List Fact → ℕ → List Fact
without_at atoms fs i = option_map_or (λ f. filter (λ g. not (same_fact f g)) fs) (slice_get atoms i) fs

-- facts with the atom at a place
abbrev pub with_at : List Fact → List Fact → ℕ → List Fact
with_at atoms fs i = option_map_or (insert_key fact_cmp fs) (slice_get atoms i) fs

-- the state after a prepared change, unless an effect has a fault
abbrev pub turned : Domain → Knowledge → List Fact → Change → State → Option State
turned d k atoms (Flags cleared set) s = Some (record { facts = fold (with_at atoms) (fold (without_at atoms) s.facts cleared.items) set.items; values = s.values })
turned d k atoms (Effects es clash) s = changed_flat k s es
turned d k atoms (Spreads es) s = changed d k s es

-- the state after the end of a prepared ground action, if that doesn't fail
abbrev pub landed : Domain → Knowledge → List Fact → Prepared → State → Option State
landed d k atoms p s = where_so (passes d k atoms p.over s) (where_so (passes d k atoms p.end s) (turned d k atoms p.at_end s))

-- the state after its step
abbrev pub successor : Domain → Knowledge → List Fact → State → Prepared → Option State
successor d k atoms s p = option_and_then (landed d k atoms p) (where_so (passes d k atoms p.start s) (turned d k atoms p.at_start s))

-- the node that it leads to from a node
abbrev pub successor_node : Domain → Knowledge → List Fact → Node → Prepared → Option Node
successor_node d k atoms n p = option_map (λ s. record { state = s; path = n.path ++ p.act ∷ [] }) (successor d k atoms n.state p)

-- the nodes that these lead to from a node, in order
abbrev pub successor_nodes : Domain → Knowledge → List Fact → List Prepared → Node → List Node
successor_nodes d k atoms ps n = filter_map (successor_node d k atoms n) ps

-- whether an effect gives a number
abbrev pub is_number : Effect → Bool
is_number (Add l) = false
is_number (Delete l) = false
is_number (Number how l x) = true

-- the effect of a part without a condition
abbrev pub plain_part : Guarded → Option Effect
plain_part (Plain e) = Some e
plain_part (When c es) = None

-- the effect that stands once, with no condition, if this is one
abbrev pub plain_of : Spread → Option Effect
plain_of (Once g) = plain_part g
plain_of (ForAll ps gs) = None

-- whether this is one
abbrev pub is_alone : Spread → Bool
is_alone s = is_some (plain_of s)

-- whether this is one that gives no number
abbrev pub is_flag : Spread → Bool
is_flag s = option_map_or (λ e. not (is_number e)) (plain_of s) false

-- such an effect as a list
abbrev pub alone_in : Spread → List Effect
alone_in s = option_to_list (plain_of s)

-- the same with arguments put in
abbrev pub put_alone : List Name → Spread → List Effect
put_alone args s = map (put_effect args) (alone_in s)
