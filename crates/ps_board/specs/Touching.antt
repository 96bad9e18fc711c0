-- What an event changes.
use Rattle.std.specs.Prelude.{ℕ, Option, Some, None, option_to_list, List, [], flat_map, slice_get}
use Rattle.std.specs.Option.{option_map_or}
use Rattle.ps_world.specs.declared.edits.Edit.{Edit}
use Rattle.ps_action.specs.Touching.{changed_by_edit, changed_by_spread}
use Rattle.ps_action.specs.declared.acts.GroundAction.{GroundAction}
use Rattle.ps_action.specs.declared.touched.Touched.{Touched}
use Rattle.ps_machine.specs.declared.journal.Event.{Event}
use Rattle.ps_machine.specs.declared.journal.Event.TheVariants as event

-- the act that an event starts, if it starts one
abbrev pub started_by : Event → Option ℕ
started_by (event.Start act) = Some act
started_by e = None

-- what an edit changes, as a list
abbrev pub touched_by_edit : Edit → List Touched
touched_by_edit edit = option_to_list (changed_by_edit edit)

-- what an event changes, where these are the ground actions of the plan: an edit, a start's effects and an end's effects change
-- something
abbrev pub touched_by : List GroundAction → Event → List Touched
touched_by gs (event.Edit by edit) = touched_by_edit edit
touched_by gs (event.Start act) = flat_map changed_by_spread (option_map_or (λ g. g.effects.at_start) (slice_get gs act) [])
touched_by gs (event.End act) = flat_map changed_by_spread (option_map_or (λ g. g.effects.at_end) (slice_get gs act) [])
touched_by gs e = []
