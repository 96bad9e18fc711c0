-- Each event is somebody's.
use Rattle.std.proofs.Common.{refl}
use Rattle.ps_world.proofs.SameTexts.{name_itself}
use Rattle.ps_machine.specs.declared.journal.By.TheVariants as by
use Rattle.ps_machine.specs.declared.journal.Event.TheVariants as event
use Rattle.ps_choice_laws.specs.Whose.{EachEventIsSomebodys}
use Rattle.ps_choice_laws.specs.Whose.IsSomebodys.{terminals, tickers, performers, observers, forced}

pub each_event_is_somebodys : EachEventIsSomebodys
each_event_is_somebodys (event.Edit (by.Terminal n) edit) = terminals refl
each_event_is_somebodys (event.Edit (by.Performer r p) edit) = performers p (name_itself p)
each_event_is_somebodys (event.Edit (by.Observer o) edit) = observers o (name_itself o)
each_event_is_somebodys (event.Refused (by.Terminal n) why) = terminals refl
each_event_is_somebodys (event.Refused (by.Performer r p) why) = performers p (name_itself p)
each_event_is_somebodys (event.Refused (by.Observer o) why) = observers o (name_itself o)
each_event_is_somebodys (event.Ask q) = terminals refl
each_event_is_somebodys (event.Run for acts) = terminals refl
each_event_is_somebodys event.Quit = terminals refl
each_event_is_somebodys (event.Start act) = tickers refl
each_event_is_somebodys (event.Request r act) = tickers refl
each_event_is_somebodys (event.Offer r p) = performers p (name_itself p)
each_event_is_somebodys (event.Pass r p why) = performers p (name_itself p)
each_event_is_somebodys (event.Confirm r p) = tickers refl
each_event_is_somebodys (event.Reject r p) = tickers refl
each_event_is_somebodys (event.Begin r p) = performers p (name_itself p)
each_event_is_somebodys (event.UnitWork r p) = performers p (name_itself p)
each_event_is_somebodys (event.Feedback r p percent text) = performers p (name_itself p)
each_event_is_somebodys (event.Finish r p ok) = performers p (name_itself p)
each_event_is_somebodys (event.Unserved r) = tickers refl
each_event_is_somebodys (event.End act) = tickers refl
each_event_is_somebodys (event.Fail act why) = tickers refl
each_event_is_somebodys (event.Cancel act why) = forced refl
each_event_is_somebodys (event.Stopped r p) = performers p (name_itself p)
each_event_is_somebodys (event.Replan acts) = tickers refl
each_event_is_somebodys (event.Over how) = tickers refl
