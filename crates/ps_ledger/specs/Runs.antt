-- What is kept of the last run.
use Rattle.std.specs.Prelude.{◌≡◌, nat_lt, Bool, true, is_some, List}
use Rattle.ps_machine.specs.declared.journal.Event.{Event}
use Rattle.ps_machine.specs.declared.journal.Event.TheVariants as event
use Rattle.ps_machine.specs.declared.journal.Entry.{Entry}
use Rattle.ps_rules.specs.Runs.{has_run, is_running, kind, replans}
use Rattle.ps_ledger.specs.declared.runs.Run.{Run}

-- What is kept of the last run is what the entries tell of it.
pub record TellsRun (es : List Entry) (l : Run) : Type 0 where
  pub going : is_running es ≡ l.running
  pub opened : has_run es ≡ is_some l.kind
  pub purpose : kind es ≡ l.kind
  pub anew : replans es ≡ l.replans

-- whether a run may be planned anew once more, where an event does so
abbrev pub speaks_of_run : Run → Event → Bool
speaks_of_run l (event.Replan acts) = nat_lt l.replans 255
speaks_of_run l e = true
