-- Runs, their plans, and the states of the acts, as they are read from the entries.
use Rattle.std.specs.Prelude.{ℕ, ◌==◌, Bool, true, false, Option, Some, None, List, []}
use Rattle.ps_action.specs.declared.acts.Act.{Act}
use Rattle.ps_action.specs.declared.states.ActState.{ActState}
use Rattle.ps_action.specs.declared.states.ActState.TheVariants.{Waiting, Active, Done, Failed, Cancelled}
use Rattle.ps_machine.specs.declared.journal.RunKind.{RunKind}
use Rattle.ps_machine.specs.declared.journal.Event.{Event}
use Rattle.ps_machine.specs.declared.journal.Event.TheVariants as event
use Rattle.ps_machine.specs.declared.journal.Entry.{Entry}
use Rattle.ps_rules.specs.Reading.{latest, has_been, times_since, only_if}

-- ---- runs

-- whether an event opens a run
abbrev pub opens : Event → Bool
opens (event.Run for acts) = true
opens e = false

-- what an event says of whether a run is open
abbrev pub says_open : Event → Option Bool
says_open (event.Run for acts) = Some true
says_open (event.Over how) = Some false
says_open e = None

-- whether a run is open: from its opening to its end
abbrev pub is_running : List Entry → Bool
is_running es = latest says_open false es

-- whether a run was ever opened
abbrev pub has_run : List Entry → Bool
has_run es = has_been opens es

-- what an event says of what the last run is for
abbrev pub says_kind : Event → Option (Option RunKind)
says_kind (event.Run for acts) = Some (Some for)
says_kind e = None

-- what the last run is for; nothing where none was opened
abbrev pub kind : List Entry → Option RunKind
kind es = latest says_kind None es

-- whether an event plans the run anew
abbrev pub is_replan : Event → Bool
is_replan (event.Replan acts) = true
is_replan e = false

-- how often the last run was planned anew
abbrev pub replans : List Entry → ℕ
replans es = times_since opens is_replan es

-- ---- plans and acts

-- the plan that an event makes
abbrev pub says_plan : Event → Option (List Act)
says_plan (event.Run for acts) = Some acts
says_plan (event.Replan acts) = Some acts
says_plan e = None

-- the plan: the acts of the last run, or of the last replan in it
abbrev pub plan : List Entry → List Act
plan es = latest says_plan [] es

-- what an event says of the state of the act at this place of the plan: each waits in a new plan, and an event that names it moves it
abbrev pub says_state : ℕ → Event → Option ActState
says_state act (event.Run for acts) = Some Waiting
says_state act (event.Replan acts) = Some Waiting
says_state act (event.Start a) = only_if (act == a) Active
says_state act (event.End a) = only_if (act == a) Done
says_state act (event.Fail a why) = only_if (act == a) Failed
says_state act (event.Cancel a why) = only_if (act == a) Cancelled
says_state act e = None

-- the state of the act at this place of the plan
abbrev pub state : ℕ → List Entry → ActState
state act es = latest (says_state act) Waiting es

-- whether an act waits
abbrev pub is_waiting : ActState → Bool
is_waiting Waiting = true
is_waiting s = false

-- whether an act is active
abbrev pub is_active : ActState → Bool
is_active Active = true
is_active s = false

-- whether an act has ended
abbrev pub is_done : ActState → Bool
is_done Done = true
is_done s = false

-- whether an act was cancelled
abbrev pub is_cancelled : ActState → Bool
is_cancelled Cancelled = true
is_cancelled s = false

-- whether an act has failed or was cancelled
abbrev pub is_harmed : ActState → Bool
is_harmed Failed = true
is_harmed Cancelled = true
is_harmed s = false
