-- What an entry's line keeps of it, and which entries have numbers that the types of their fields hold.
use Rattle.std.specs.Prelude.{Bool, true, ◌&&◌, IsTrue}
use Rattle.ps_world.specs.declared.edits.EditRefusal.{EditRefusal}
use Rattle.ps_world.specs.declared.edits.EditRefusal.TheVariants as edit
use Rattle.ps_action.specs.declared.refusals.GroundRefusal.{GroundRefusal}
use Rattle.ps_action.specs.declared.refusals.GroundRefusal.TheVariants as ground
use Rattle.ps_action.specs.declared.refusals.PlanRefusal.{PlanRefusal}
use Rattle.ps_action.specs.declared.refusals.PlanRefusal.TheVariants as plan
use Rattle.ps_machine.specs.declared.journal.By.{By}
use Rattle.ps_machine.specs.declared.journal.By.TheVariants as by
use Rattle.ps_machine.specs.declared.journal.Refusal.{Refusal}
use Rattle.ps_machine.specs.declared.journal.Refusal.TheVariants as refusal
use Rattle.ps_machine.specs.declared.journal.Event.{Event}
use Rattle.ps_machine.specs.declared.journal.Event.TheVariants as event
use Rattle.ps_machine.specs.declared.journal.Entry.{Entry}
use Rattle.ps_rules.specs.Same.{first_alike}
use Rattle.ps_entries.specs.Forms.{is_byte, is_effect_cause, is_line_cause, is_long, is_outcome, is_short, is_text_cause}

-- ---- causes that print alike

-- an event with the first of the causes that print as its cause does
abbrev pub first_event : Event → Event
first_event (event.Refused who why) = event.Refused who (first_alike why)
first_event e = e

-- the same of an entry
abbrev pub first_entry : Entry → Entry
first_entry e = record { hand = e.hand; what = first_event e.what }

-- ---- numbers: whether each fits the type of its field, as it does in every value of that type

-- of an edit's cause
abbrev pub is_held_edit_cause : EditRefusal → Bool
is_held_edit_cause (edit.Arity want got) = is_long want && is_long got
is_held_edit_cause (edit.WrongType at) = is_long at
is_held_edit_cause r = true

-- of the cause for which an act can't be grounded
abbrev pub is_held_ground_cause : GroundRefusal → Bool
is_held_ground_cause (ground.Arity want got) = is_long want && is_long got
is_held_ground_cause (ground.WrongType at) = is_long at
is_held_ground_cause r = true

-- of the cause for which a plan isn't good
abbrev pub is_held_plan_cause : PlanRefusal → Bool
is_held_plan_cause (plan.Ground at r) = is_short at && is_held_ground_cause r
is_held_plan_cause (plan.StartFalse at) = is_short at
is_held_plan_cause (plan.StartEffect at r) = is_short at && is_effect_cause r
is_held_plan_cause (plan.OverAllFalse at) = is_short at
is_held_plan_cause (plan.EndFalse at) = is_short at
is_held_plan_cause (plan.EndEffect at r) = is_short at && is_effect_cause r
is_held_plan_cause r = true

-- of a cause
abbrev pub is_held_cause : Refusal → Bool
is_held_cause (refusal.Line cause) = is_line_cause cause
is_held_cause (refusal.Edit r) = is_held_edit_cause r
is_held_cause (refusal.Ground r) = is_held_ground_cause r
is_held_cause (refusal.Plan r) = is_held_plan_cause r
is_held_cause (refusal.PlanText r) = is_text_cause r
is_held_cause (refusal.Spent depth) = is_short depth
is_held_cause why = true

-- of whose edit it is
abbrev pub is_held_by : By → Bool
is_held_by (by.Terminal n) = is_short n
is_held_by (by.Performer r p) = is_long r
is_held_by (by.Observer o) = true

-- of an event
abbrev pub is_held_event : Event → Bool
is_held_event (event.Edit who change) = is_held_by who
is_held_event (event.Refused who why) = is_held_by who && is_held_cause why
is_held_event (event.Start act) = is_short act
is_held_event (event.Request r act) = is_long r && is_short act
is_held_event (event.Offer r p) = is_long r
is_held_event (event.Pass r p why) = is_long r
is_held_event (event.Confirm r p) = is_long r
is_held_event (event.Reject r p) = is_long r
is_held_event (event.Begin r p) = is_long r
is_held_event (event.UnitWork r p) = is_long r
is_held_event (event.Feedback r p percent text) = is_long r && is_byte percent
is_held_event (event.Finish r p ok) = is_long r
is_held_event (event.Unserved r) = is_long r
is_held_event (event.End act) = is_short act
is_held_event (event.Fail act why) = is_short act
is_held_event (event.Cancel act why) = is_short act
is_held_event (event.Stopped r p) = is_long r
is_held_event (event.Over how) = is_outcome how
is_held_event e = true

-- each number of an entry fits the type of its field, as it does in every value of the type
abbrev pub IsHeld : Entry → Type 0
IsHeld e = IsTrue (is_byte e.hand && is_held_event e.what)
