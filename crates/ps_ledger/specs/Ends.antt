-- What is kept of how runs ended.
use Rattle.std.specs.Prelude.{◌≡◌, true, false, Option, Some, None, is_some, List}
use Rattle.std.specs.Option.{option_or}
use Rattle.ps_machine.specs.declared.journal.Outcome.{Outcome}
use Rattle.ps_machine.specs.declared.journal.Event.{Event}
use Rattle.ps_machine.specs.declared.journal.Event.TheVariants as event
use Rattle.ps_machine.specs.declared.journal.Entry.{Entry}
use Rattle.ps_rules.specs.Reading.{read}
use Rattle.ps_rules.specs.Runs.{has_run, is_running}
use Rattle.ps_ledger.specs.declared.ends.Ends.{Ends}

-- how an event ends a run, if it ends one
abbrev pub outcome_of : Event → Option Outcome
outcome_of (event.Over how) = Some how
outcome_of e = None

-- how the last run that has ended did, if one has
abbrev pub last_outcome : List Entry → Option Outcome
last_outcome es = read (λ how e. option_or (outcome_of e) how) None es

-- What is kept of how runs ended is what the entries tell of it, and where a run was opened and none is open, one has.
pub record TellsEnds (es : List Entry) (l : Ends) : Type 0 where
  pub last : last_outcome es ≡ l.last
  pub ended : has_run es ≡ true → is_running es ≡ false → is_some l.last ≡ true
