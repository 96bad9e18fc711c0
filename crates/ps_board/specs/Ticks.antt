-- What comes of the turn of the ticker.
use Rattle.std.specs.Prelude.{if◌then◌else◌, Option, Some, None, List, length}
use Rattle.ps_machine.specs.declared.inputs.Input.{Input}
use Rattle.ps_machine.specs.declared.journal.Outcome.{Outcome}
use Rattle.ps_machine.specs.declared.journal.Event.{Event}
use Rattle.ps_machine.specs.declared.journal.Entry.{Entry}
use Rattle.ps_rules.specs.Choices.{ticked, wants_plan}
use Rattle.ps_rules.specs.Known.{know}
use Rattle.ps_ledger.specs.Ends.{outcome_of}
use Rattle.ps_board.specs.declared.ticks.Snapshot.{Snapshot}
use Rattle.ps_board.specs.declared.ticks.Ticked.{Ticked}
use Rattle.ps_board.specs.declared.ticks.Ticked.TheVariants as tick
use Rattle.ps_board.specs.declared.whole.Parts.{Parts}

-- what is handed out where the solver is asked: how many entries there are, and what is known after them
abbrev pub snapshot_of : Input → List Entry → Option Snapshot
snapshot_of i es = if wants_plan i es then Some (record { at = length es; problem = know i es }) else None

-- the answer of a tick that ended the run so, if it ended it
abbrev pub done_answer : Option Outcome → Ticked
done_answer (Some how) = tick.Over how
done_answer None = tick.Did

-- the answer of a tick that did nothing, where this is handed out to ask the solver with, if it is asked
abbrev pub idle_answer : Option Snapshot → Ticked
idle_answer (Some snapshot) = tick.WantsPlan snapshot
idle_answer None = tick.Nothing

-- the answer of a tick in an open run that does this, if it does something, and else hands this out, if it does
abbrev pub ticked_answer : Option Snapshot → Option Event → Ticked
ticked_answer asked (Some e) = done_answer (outcome_of e)
ticked_answer asked None = idle_answer asked

-- the answer of a tick where no run is open and the last one ended so
abbrev pub closed_answer : Option Outcome → Ticked
closed_answer (Some how) = tick.Over how
closed_answer None = tick.Nothing

-- what a tick does in an open run
abbrev pub tick_of : Parts → Option Event
tick_of c = ticked c.input c.entries.items

-- its answer
abbrev pub answer_of : Parts → Ticked
answer_of c = ticked_answer (snapshot_of c.input c.entries.items) (tick_of c)
