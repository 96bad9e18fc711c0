-- The acts of an action, as they are listed.
use Rattle.std.specs.Prelude.{List, map}
use Rattle.ps_world.specs.declared.names.Name.{Name}
use Rattle.ps_world.specs.declared.actions.ActionDef.{ActionDef}
use Rattle.ps_world.specs.declared.domains.Domain.{Domain}
use Rattle.ps_action.specs.Grounding.{picks}
use Rattle.ps_action.specs.declared.acts.Act.{Act}
use Rattle.ps_domain.specs.Listing.{choices_in}

-- the act of an action with these arguments
abbrev pub act_with : ActionDef → List Name → Act
act_with a args = record { action = a.name; args = args }

-- all acts of an action among instances in the order of their names
abbrev pub acts_with : Domain → List (Name × Name) → ActionDef → List Act
acts_with d sorted a = map (act_with a) (picks (map (choices_in d sorted) a.params))
