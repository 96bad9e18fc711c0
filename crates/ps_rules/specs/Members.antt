-- Performers and observers, and what each does next.
use Rattle.std.specs.Prelude.{ℕ, ◌-◌, ◌==◌, if◌then◌else◌, min, Bool, true, false, ◌&&◌, Option, Some, None, option_and_then, List, [], ◌∷◌, filter_map, find, length, slice_get}
use Rattle.std.specs.List.{list_all, zip}
use Rattle.std.specs.Option.{option_map_or}
use Rattle.ps_world.specs.Names.{same_name}
use Rattle.ps_world.specs.CondViews.{cond_tree}
use Rattle.ps_world.specs.declared.names.Name.{Name}
use Rattle.ps_world.specs.declared.conditions.Cond.{Cond}
use Rattle.ps_world.specs.declared.edits.Edit.{Edit}
use Rattle.ps_world.specs.declared.domains.Domain.{Domain}
use Rattle.ps_world.specs.declared.known.Knowledge.{Knowledge}
use Rattle.ps_action.specs.declared.acts.Act.{Act}
use Rattle.ps_machine.specs.declared.inputs.Input.{Input}
use Rattle.ps_machine.specs.declared.members.Unit.{Unit as Task}
use Rattle.ps_machine.specs.declared.members.Unit.TheVariants as unit
use Rattle.ps_machine.specs.declared.members.Member.{Member}
use Rattle.ps_machine.specs.declared.members.Member.TheVariants as member
use Rattle.ps_machine.specs.declared.members.Performer.{Performer}
use Rattle.ps_machine.specs.declared.members.Observer.{Observer}
use Rattle.ps_machine.specs.declared.journal.By.TheVariants as by
use Rattle.ps_machine.specs.declared.journal.Event.{Event}
use Rattle.ps_machine.specs.declared.journal.Event.TheVariants as event
use Rattle.ps_machine.specs.declared.journal.Entry.{Entry}
use Rattle.ps_rules.specs.Reading.{times_since}
use Rattle.ps_rules.specs.Runs.{opens, plan}
use Rattle.ps_rules.specs.Auctions.{act_of, begins, is_for_active, is_working, units_done}
use Rattle.ps_rules.specs.Known.{hold, know}

-- ---- who there is

-- a member as a performer, where it is one
abbrev pub as_performer : Member → Option Performer
as_performer (member.Performer p) = Some p
as_performer (member.Observer o) = None

-- a member as an observer, where it is one
abbrev pub as_observer : Member → Option Observer
as_observer (member.Performer p) = None
as_observer (member.Observer o) = Some o

-- the performers, in the order of the words
abbrev pub performers : Input → List Performer
performers i = filter_map as_performer i.members

-- the observers, in the order of the words
abbrev pub observers : Input → List Observer
observers i = filter_map as_observer i.members

-- the performer of this name
abbrev pub performer_of : Input → Name → Option Performer
performer_of i p = find (λ performer. same_name p performer.name) (performers i)

-- the observer of this name
abbrev pub observer_of : Input → Name → Option Observer
observer_of i o = find (λ observer. same_name o observer.name) (observers i)

-- ---- which acts a performer does

-- whether a name may stand at a place of a pattern: the place is free, or wants that name
abbrev pub may_stand : Option Name × Name → Bool
may_stand (None, n) = true
may_stand (Some want, n) = same_name want n

-- whether a performer does this act: it does the act's action, and each argument may stand at its place of the pattern
abbrev pub matches : Performer → Act → Bool
matches p act =
    same_name p.action act.action && ((length p.pattern == length act.args) && list_all may_stand (zip p.pattern act.args))

-- whether it does the act that a request is for
abbrev pub matches_request : Performer → ℕ → List Entry → Bool
matches_request p r es = option_map_or (matches p) (option_and_then (slice_get (plan es)) (act_of r es)) false

-- ---- what a performer does next

-- its job at its n-th beginning, counted from 1: the n-th, or the last where there are fewer
abbrev pub job : Performer → ℕ → Option (List Task)
job p n = slice_get p.jobs (min n (length p.jobs) - 1)

-- the unit that stands next in the job of its last beginning
abbrev pub unit_of : Performer → ℕ → Name → List Entry → Option Task
unit_of performer r p es = option_and_then (λ units. slice_get units (units_done r p es)) (job performer (begins p es))

-- a performer's next unit on a request, where it works on it and the act is active
abbrev pub next_unit : Input → ℕ → Name → List Entry → Option Task
next_unit i r p es =
    if is_working r p es && is_for_active r es then option_and_then (λ performer. unit_of performer r p es) (performer_of i p) else None

-- a unit as an edit, where it is one
abbrev pub as_edit : Task → Option Edit
as_edit (unit.Edit edit) = Some edit
as_edit u = None

-- its next unit on a request, where that is an edit
abbrev pub next_edit : Input → ℕ → Name → List Entry → Option Edit
next_edit i r p es = option_and_then as_edit (next_unit i r p es)

-- ---- what an observer does next

-- whether an event is a unit of this observer
abbrev pub is_observed : Name → Event → Bool
is_observed o (event.Edit (by.Observer n) edit) = same_name o n
is_observed o (event.Refused (by.Observer n) why) = same_name o n
is_observed o e = false

-- how many units this observer has done in the last run
abbrev pub observed : Name → List Entry → ℕ
observed o es = times_since opens (is_observed o) es

-- the edit of a unit, where its condition, if it has one, holds
abbrev pub edit_where : Domain → Knowledge → Option Cond × Edit → Option Edit
edit_where d k (None, edit) = Some edit
edit_where d k (Some when, edit) = if hold d k (cond_tree when ∷ []) then Some edit else None

-- the edit that an observer makes next, where it may be made now
abbrev pub seen_by : Input → Observer → List Entry → Option Edit
seen_by i o es = option_and_then (edit_where i.domain (know i es)) (slice_get o.units (observed o.name es))

-- the same of the observer of this name
abbrev pub next_seen : Input → Name → List Entry → Option Edit
next_seen i o es = option_and_then (λ observer. seen_by i observer es) (observer_of i o)
