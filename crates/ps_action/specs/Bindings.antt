-- Instances that bound variables stand for.
use Rattle.std.specs.Prelude.{if◌then◌else◌, List, [], ◌∷◌, ◌++◌, map, filter, flat_map}
use Rattle.ps_world.specs.Knowledge.{is_below, is_type}
use Rattle.ps_world.specs.declared.names.Name.{Name}
use Rattle.ps_world.specs.declared.domains.Param.{Param}
use Rattle.ps_world.specs.declared.domains.Domain.{Domain}

-- the names of those instances whose type is this one or below it, in their order
abbrev pub of_type : Domain → List (Name × Name) → Name → List Name
of_type d instances kind = map (λ i. i.0) (filter (λ i. is_below d i.1 kind) instances)

-- the names that a variable of this type may stand for; a type that isn't declared has none
abbrev pub fitting_names : Domain → List (Name × Name) → Name → List Name
fitting_names d instances kind = if is_type d kind then of_type d instances kind else []

-- these names with one more for each variable, in every way; the names of earlier variables count first in the order
abbrev pub bindings : Domain → List (Name × Name) → List Param → List Name → List (List Name)
bindings d instances [] env = env ∷ []
bindings d instances (p ∷ ps) env = flat_map (λ n. bindings d instances ps (env ++ n ∷ [])) (fitting_names d instances p.kind)

-- the bindings of variables where the first of them stands for one of these
abbrev pub bindings_from : Domain → List (Name × Name) → Param → List Param → List Name → List (Name × Name) → List (List Name)
bindings_from d instances p ps env some = flat_map (λ n. bindings d instances ps (env ++ n ∷ [])) (of_type d some p.kind)
