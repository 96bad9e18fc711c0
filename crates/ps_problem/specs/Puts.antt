-- What is found before a change is made, and how it goes back where memory runs out.
use Rattle.std.specs.Prelude.{not, ◌&&◌, Option, Some, None, List, filter, map}
use Rattle.std.specs.List.{list_any}
use Rattle.std.specs.Map.{keys_of, lookup, set_value}
use Rattle.ps_world.specs.Knowledge.{ground, same_fact}
use Rattle.ps_world.specs.Names.{same_name}
use Rattle.ps_world.specs.declared.names.Name.{Name}
use Rattle.ps_world.specs.declared.numbers.Num.{Num}
use Rattle.ps_world.specs.declared.facts.Fact.{Fact}
use Rattle.ps_world.specs.declared.actions.Effect.{Effect}
use Rattle.ps_world.specs.declared.actions.Effect.TheVariants.{Add, Delete, Number}

-- the fact that an effect deletes, if it deletes one
abbrev pub deleted_by : Effect → Option Fact
deleted_by (Add l) = None
deleted_by (Delete l) = Some (ground l)
deleted_by (Number how l x) = None

-- the facts among those that come, without those that are known
abbrev pub fresh_in : List Fact → List Fact → List Fact
fresh_in facts adds = filter (λ f. not (list_any (same_fact f) facts)) adds

-- the known facts among those that go, without those that come
abbrev pub lost_in : List Fact → List Fact → List Fact → List Fact
lost_in facts adds deletes = filter (λ f. list_any (same_fact f) facts && not (list_any (same_fact f) adds)) deletes

-- the terms that lose their values, without those that are given one
abbrev pub dropped_in : List (Fact × Num) → List Fact → List Fact
dropped_in ready gone = filter (λ f. not (list_any (same_fact f) (keys_of ready))) gone

-- terms, each with the value that it has
abbrev pub held_in : List (Fact × Num) → List Fact → List (Fact × Option Num)
held_in values terms = map (λ f. (f, lookup (same_fact f) values)) terms

-- instances without this one
abbrev pub without_instance : List (Name × Name) → Name → List (Name × Name)
without_instance instances n = filter (λ i. not (same_name n i.0)) instances

-- facts without this one
abbrev pub without_one : List Fact → Fact → List Fact
without_one facts f = filter (λ g. not (same_fact f g)) facts

-- values without this term's
abbrev pub without_term : List (Fact × Num) → Fact → List (Fact × Num)
without_term values f = filter (λ v. not (same_fact f v.0)) values

-- values where a term that has one has this one in its place, or none
abbrev pub put_back : List (Fact × Num) → Fact → Option Num → List (Fact × Num)
put_back values f None = filter (λ v. not (same_fact f v.0)) values
put_back values f (Some n) = set_value (same_fact f) values n

-- the same of a term with what it held
abbrev pub with_held : List (Fact × Num) → Fact × Option Num → List (Fact × Num)
with_held values h = put_back values h.0 h.1
