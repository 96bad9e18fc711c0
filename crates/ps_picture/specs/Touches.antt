-- What an entry of a journal does to the rows of a picture.
use Rattle.std.specs.Prelude.{ℕ, Bool, true, false, if◌then◌else◌, ◌==◌, Option, Some, None}
use Rattle.ps_world.specs.Names.{same_name}
use Rattle.ps_world.specs.declared.names.Name.{Name}
use Rattle.ps_machine.specs.declared.journal.By.{By}
use Rattle.ps_machine.specs.declared.journal.By.TheVariants.{Terminal, Performer, Observer}
use Rattle.ps_machine.specs.declared.journal.Event.{Event}
use Rattle.ps_machine.specs.declared.journal.Event.TheVariants as event
use Rattle.ps_picture.specs.declared.touches.Ending.{Ending}
use Rattle.ps_picture.specs.declared.touches.Ending.TheVariants.{Done, Failed, Cancelled}
use Rattle.ps_picture.specs.declared.touches.Sign.{Sign}
use Rattle.ps_picture.specs.declared.touches.Sign.TheVariants as sign
use Rattle.ps_picture.specs.declared.touches.Subject.{Subject}
use Rattle.ps_picture.specs.declared.touches.Subject.TheVariants.{Act, Member}
use Rattle.ps_picture.specs.declared.touches.Touch.{Touch}
use Rattle.ps_picture.specs.declared.touches.Touch.TheVariants.{Begins, Ends, Marks}

-- whether two rows are of the same act or member
abbrev pub same_subject : Subject → Subject → Bool
same_subject (Act m) (Act n) = m == n
same_subject (Member m) (Member n) = same_name m n
same_subject (Act m) (Member n) = false
same_subject (Member m) (Act n) = false

-- how a bar ends with a performer that finishes
abbrev pub finished : Bool → Ending
finished ok = if ok then Done else Failed

-- a mark in the row of whoever edits, if it isn't the terminal
abbrev pub by_touch : By → Sign → Option (Subject × Touch)
by_touch (Terminal line) s = None
by_touch (Performer r p) s = Some (Member p, Marks s)
by_touch (Observer o) s = Some (Member o, Marks s)

-- whose row an event stands in, and what it does there: a bar begins or ends, or a mark stands
abbrev pub touch_of : Event → Option (Subject × Touch)
touch_of (event.Start i) = Some (Act i, Begins)
touch_of (event.Request r i) = Some (Act i, Marks sign.Request)
touch_of (event.End i) = Some (Act i, Ends Done)
touch_of (event.Fail i why) = Some (Act i, Ends Failed)
touch_of (event.Cancel i why) = Some (Act i, Ends Cancelled)
touch_of (event.Offer r p) = Some (Member p, Marks sign.Offer)
touch_of (event.Pass r p why) = Some (Member p, Marks sign.Pass)
touch_of (event.Confirm r p) = Some (Member p, Marks sign.Confirm)
touch_of (event.Reject r p) = Some (Member p, Marks sign.Reject)
touch_of (event.Begin r p) = Some (Member p, Begins)
touch_of (event.Feedback r p percent text) = Some (Member p, Marks sign.Feedback)
touch_of (event.Finish r p ok) = Some (Member p, Ends (finished ok))
touch_of (event.Stopped r p) = Some (Member p, Ends Cancelled)
touch_of (event.Edit by edit) = by_touch by sign.Edit
touch_of (event.Refused by why) = by_touch by sign.Refused
touch_of other = None

-- what is done to this row, of what is done to some row
abbrev pub touch_in : Subject → Option (Subject × Touch) → Option Touch
touch_in s None = None
touch_in s (Some (other, touch)) = if same_subject s other then Some touch else None

-- what an event does to a row
abbrev pub touch_on : Subject → Event → Option Touch
touch_on s e = touch_in s (touch_of e)
