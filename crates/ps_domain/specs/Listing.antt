-- The ground actions of an action, as they are listed.
use Rattle.std.specs.Prelude.{◌≡◌, Some, List, ◌++◌, map, filter}
use Rattle.std.specs.BTreeMap.{is_at}
use Rattle.std.specs.Map.{lookup}
use Rattle.ps_world.specs.Names.{name_cmp}
use Rattle.ps_world.specs.Knowledge.{is_below}
use Rattle.ps_world.specs.declared.names.Name.{Name}
use Rattle.ps_world.specs.declared.actions.ActionDef.{ActionDef}
use Rattle.ps_world.specs.declared.domains.Param.{Param}
use Rattle.ps_world.specs.declared.domains.Domain.{Domain}
use Rattle.ps_action.specs.Grounding.{grounded, picks}
use Rattle.ps_action.specs.declared.acts.GroundAction.{GroundAction}

-- the names that may stand for a parameter, of instances in the order of their names
abbrev pub choices_in : Domain → List (Name × Name) → Param → List Name
choices_in d sorted p = map (λ i. i.0) (filter (λ i. is_below d i.1 p.kind) sorted)

-- what is kept under a type are the names that may stand for a parameter of that type
abbrev pub AreChoices : Domain → List (Name × Name) → List (Name × List Name) → Type 0
AreChoices d sorted known = (p : Param) (names : List Name) → lookup (is_at (name_cmp p.kind)) known ≡ Some names → names ≡ choices_in d sorted p

-- the ground action of an action with these arguments
abbrev pub ground_with : ActionDef → List Name → GroundAction
ground_with a args = grounded a (record { action = a.name; args = args })

-- the ground actions of an action whose arguments begin with the first ones and go on with each of these lists
abbrev pub ground_from : ActionDef → List Name → List (List Name) → List GroundAction
ground_from a first lists = map (λ args. ground_with a (first ++ args)) lists

-- all ground actions of an action among such instances
abbrev pub all_with : Domain → List (Name × Name) → ActionDef → List GroundAction
all_with d sorted a = map (ground_with a) (picks (map (choices_in d sorted) a.params))
