-- What is chosen in a turn.
use Rattle.ps_machine.specs.declared.journal.Event.{Event}
use Rattle.ps_machine.specs.declared.journal.Event.TheVariants as event
use Rattle.ps_actors.specs.declared.choice.Chosen.{Chosen}
use Rattle.ps_actors.specs.declared.choice.Chosen.TheVariants as chosen

-- the event that is chosen
abbrev pub event_of : Chosen → Event
event_of (chosen.Offer r p) = event.Offer r p
event_of (chosen.Pass r p why) = event.Pass r p why
event_of (chosen.Confirm r p) = event.Confirm r p
event_of (chosen.Reject r p) = event.Reject r p
event_of (chosen.Begin r p) = event.Begin r p
event_of (chosen.Stopped r p) = event.Stopped r p
event_of (chosen.Unserved r) = event.Unserved r
event_of (chosen.Request r act) = event.Request r act
event_of (chosen.Start act) = event.Start act
event_of (chosen.End act) = event.End act
event_of (chosen.Fail act why) = event.Fail act why
event_of (chosen.Over how) = event.Over how
