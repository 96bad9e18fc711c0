-- Where the reader of a member script stands after a line, by where it stood before and what the line says.
use Rattle.std.specs.Prelude.{ℕ, ◌==◌, nat_lt, if◌then◌else◌, List, [], ◌∷◌, ◌++◌, length, Option, None, Some, Result, Ok, Err}
use Rattle.ps_world.specs.Knowledge.{action_of}
use Rattle.ps_world.specs.declared.actions.ActionDef.{ActionDef}
use Rattle.ps_world.specs.declared.conditions.Cond.{Cond}
use Rattle.ps_world.specs.declared.domains.Domain.{Domain}
use Rattle.ps_world.specs.declared.edits.Edit.{Edit as Change}
use Rattle.ps_world.specs.declared.names.Name.{Name}
use Rattle.ps_machine.specs.declared.inputs.LineCause.TheVariants as cause
use Rattle.ps_machine.specs.declared.members.Unit.{Unit as Task}
use Rattle.ps_machine.specs.declared.members.Unit.TheVariants as unit
use Rattle.ps_machine.specs.declared.members.Observer.{Observer}
use Rattle.ps_machine.specs.declared.members.Performer.{Performer}
use Rattle.ps_machine.specs.declared.members.Member.TheVariants as member
use Rattle.ps_members.specs.Forms.{is_finished}
use Rattle.ps_members.specs.declared.places.Place.{Place}
use Rattle.ps_members.specs.declared.places.Place.TheVariants.{Beginning, Named, Acting, Ready, Working, Observing, Waiting, Ended}
use Rattle.ps_members.specs.declared.places.Said.{Said}
use Rattle.ps_members.specs.declared.places.Said.TheVariants as says
use Rattle.ps_members.specs.declared.refusals.ScriptRefusal.{ScriptRefusal}
use Rattle.ps_members.specs.declared.refusals.ScriptRefusal.TheVariants.{Line, NoAction, Arity, NoFinish, Limit}

-- how many jobs a performer has at most
abbrev pub most_jobs : ℕ
most_jobs = 64

-- how many units a job or an observer has at most
abbrev pub most_units : ℕ
most_units = 1000

-- after `action`: the domain declares it
abbrev pub acting : ℕ → Name → Name → Option ActionDef → Result Place ScriptRefusal
acting n name action None = Err (NoAction n)
acting n name action (Some declared) = Ok (Acting name action (length declared.params))

-- after `args`: there is one place for each parameter
abbrev pub ready : ℕ → Name → Name → ℕ → List (Option Name) → Result Place ScriptRefusal
ready n name action arity places =
    if length places == arity then Ok (Ready (record { name = name; action = action; pattern = places; jobs = [] })) else Err (Arity n)

-- a performer with one job more
abbrev pub with_job : Performer → List Task → Performer
with_job p units = record p { jobs = p.jobs ++ units ∷ [] }

-- after a `job` that follows another job
abbrev pub next_job : ℕ → Performer → List Task → Result Place ScriptRefusal
next_job n p units =
    if is_finished units then (if nat_lt (length (with_job p units).jobs) most_jobs then Ok (Working (with_job p units) []) else Err (Limit n))
    else Err (NoFinish n)

-- after the `end` of a performer
abbrev pub last_job : ℕ → Performer → List Task → Result Place ScriptRefusal
last_job n p units = if is_finished units then Ok (Ended (member.Performer (with_job p units))) else Err (NoFinish n)

-- after a unit of a job
abbrev pub with_unit : ℕ → Performer → List Task → Task → Result Place ScriptRefusal
with_unit n p units u = if nat_lt (length units) most_units then Ok (Working p (units ++ u ∷ [])) else Err (Limit n)

-- after an edit of an observer, with the condition before it
abbrev pub with_item : ℕ → Observer → Option Cond → Change → Result Place ScriptRefusal
with_item n o when e =
    if nat_lt (length o.units) most_units then Ok (Observing (record o { units = o.units ++ (when, e) ∷ [] })) else Err (Limit n)

-- what isn't allowed here is no form of a line, as it is where lines are read
abbrev pub misplaced : ℕ → Result Place ScriptRefusal
misplaced n = Err (Line n cause.Command)

-- ---- where a line leads from each place

abbrev pub from_beginning : ℕ → Said → Result Place ScriptRefusal
from_beginning n (says.Performer name) = Ok (Named name)
from_beginning n (says.Observer name) = Ok (Observing (record { name = name; units = [] }))
from_beginning n _ = misplaced n

abbrev pub from_named : Domain → ℕ → Name → Said → Result Place ScriptRefusal
from_named d n name (says.Action action) = acting n name action (action_of d action)
from_named d n name _ = misplaced n

abbrev pub from_acting : ℕ → Name → Name → ℕ → Said → Result Place ScriptRefusal
from_acting n name action arity (says.Args places) = ready n name action arity places
from_acting n name action arity _ = misplaced n

abbrev pub from_ready : ℕ → Performer → Said → Result Place ScriptRefusal
from_ready n p says.Job = Ok (Working p [])
from_ready n p _ = misplaced n

abbrev pub from_working : ℕ → Performer → List Task → Said → Result Place ScriptRefusal
from_working n p units says.Job = next_job n p units
from_working n p units says.End = last_job n p units
from_working n p units (says.Unit u) = with_unit n p units u
from_working n p units _ = misplaced n

-- an observer's units are edits
abbrev pub with_edit : ℕ → Observer → Option Cond → Task → Result Place ScriptRefusal
with_edit n o when (unit.Edit e) = with_item n o when e
with_edit n o when _ = misplaced n

abbrev pub from_observing : ℕ → Observer → Said → Result Place ScriptRefusal
from_observing n o (says.When c) = Ok (Waiting o c)
from_observing n o (says.Unit u) = with_edit n o None u
from_observing n o says.End = Ok (Ended (member.Observer o))
from_observing n o _ = misplaced n

abbrev pub from_waiting : ℕ → Observer → Cond → Said → Result Place ScriptRefusal
from_waiting n o c (says.Unit u) = with_edit n o (Some c) u
from_waiting n o c _ = misplaced n

-- where line n leads
abbrev pub moved : Domain → ℕ → Place → Said → Result Place ScriptRefusal
moved d n Beginning said = from_beginning n said
moved d n (Named name) said = from_named d n name said
moved d n (Acting name action arity) said = from_acting n name action arity said
moved d n (Ready p) said = from_ready n p said
moved d n (Working p units) said = from_working n p units said
moved d n (Observing o) said = from_observing n o said
moved d n (Waiting o c) said = from_waiting n o c said
moved d n (Ended m) said = misplaced n
