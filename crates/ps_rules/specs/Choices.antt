-- Whose turn does what: the order in which events are chosen, and the journal of a session whose members take turns in order.
use Rattle.std.specs.Prelude.{ℕ, zero, suc, ◌+◌, ◌%◌, Bool, ◌&&◌, if◌then◌else◌, Option, Some, None, is_none, option_and_then, option_map, Ok, Err, List, [], ◌∷◌, ◌++◌, filter, filter_map, find, flat_map, fold, length, map, slice_get}
use Rattle.std.specs.List.{range_with_len}
use Rattle.std.specs.Option.{option_map_or, option_or, option_to_list}
use Rattle.ps_world.specs.Knowledge.{edited}
use Rattle.ps_world.specs.declared.names.Name.{Name}
use Rattle.ps_world.specs.declared.domains.Domain.{Domain}
use Rattle.ps_world.specs.declared.known.Knowledge.{Knowledge}
use Rattle.ps_world.specs.declared.edits.Edit.{Edit}
use Rattle.ps_action.specs.declared.answers.Answer.{Answer}
use Rattle.ps_action.specs.declared.answers.Answer.TheVariants as answer
use Rattle.ps_machine.specs.declared.inputs.Command.{Command}
use Rattle.ps_machine.specs.declared.inputs.Command.TheVariants as command
use Rattle.ps_machine.specs.declared.inputs.Line.{Line}
use Rattle.ps_machine.specs.declared.inputs.Line.TheVariants.{Good, Bad}
use Rattle.ps_machine.specs.declared.inputs.Input.{Input}
use Rattle.ps_machine.specs.declared.members.Unit.{Unit as Task}
use Rattle.ps_machine.specs.declared.members.Unit.TheVariants as unit
use Rattle.ps_machine.specs.declared.members.Member.{Member}
use Rattle.ps_machine.specs.declared.members.Member.TheVariants as member
use Rattle.ps_machine.specs.declared.journal.By.{By}
use Rattle.ps_machine.specs.declared.journal.By.TheVariants as by
use Rattle.ps_machine.specs.declared.journal.Refusal.{Refusal}
use Rattle.ps_machine.specs.declared.journal.RunKind.TheVariants as run
use Rattle.ps_machine.specs.declared.journal.PassWhy.TheVariants as pass
use Rattle.ps_machine.specs.declared.journal.FailWhy.TheVariants as fail
use Rattle.ps_machine.specs.declared.journal.Event.{Event}
use Rattle.ps_machine.specs.declared.journal.Event.TheVariants as event
use Rattle.ps_machine.specs.declared.journal.Entry.{Entry}
use Rattle.ps_rules.specs.Runs.{is_running}
use Rattle.ps_rules.specs.Auctions.{act_of, first_offer, is_open, offers, requests}
use Rattle.ps_rules.specs.Known.{know}
use Rattle.ps_rules.specs.Lines.{acts_of, answered, due_lines, edit_refusal, refusal_of}
use Rattle.ps_rules.specs.Members.{next_seen, next_unit}
use Rattle.ps_rules.specs.Settled.{given_up, places, is_settled, verdict}
use Rattle.ps_rules.specs.Legal.{is_legal}
use Rattle.ps_rules.specs.History.{forced}

-- ---- the ticker

-- all requests, in the order of their numbers
abbrev pub all_requests : List Entry → List ℕ
all_requests es = range_with_len 0 (requests es)

-- the open ones
abbrev pub open_requests : List Entry → List ℕ
open_requests es = filter (λ r. is_open r es) (all_requests es)

-- what the ticker may do, in the order in which it chooses: first it rejects offers
abbrev pub rejects : List Entry → List Event
rejects es = flat_map (λ r. map (event.Reject r) (offers r es)) (all_requests es)

-- then it confirms an offer
abbrev pub confirms : List Entry → List Event
confirms es = flat_map (λ r. map (event.Confirm r) (option_to_list (first_offer (offers r es)))) (all_requests es)

-- then it gives up on a request that every performer passed
abbrev pub leaves : List Entry → List Event
leaves es =
    flat_map (λ r. event.Unserved r ∷ map (λ act. event.Fail act fail.NoPerformer) (option_to_list (act_of r es))) (open_requests es)

-- then it ends an act, or fails it
abbrev pub ends : List Entry → List Event
ends es =
    flat_map (λ act. event.End act ∷ event.Fail act fail.Script ∷ event.Fail act fail.AtEnd ∷ event.Fail act fail.Effect ∷ []) (places es)

-- then it asks for a performer
abbrev pub puts_up : List Entry → List Event
puts_up es = map (event.Request (requests es)) (places es)

-- then it starts an act
abbrev pub starts : List Entry → List Event
starts es = map event.Start (places es)

-- at last it ends the run, where that needs no solver
abbrev pub overs : Input → List Entry → List Event
overs i es = map event.Over (option_to_list (verdict i es))

-- the ticker's choice: the first of these that is legal, if one is; an event that rests on the solver's answer isn't among them
abbrev pub ticked : Input → List Entry → Option Event
ticked i es =
    find (is_legal i es) (rejects es ++ (confirms es ++ (leaves es ++ (ends es ++ (puts_up es ++ (starts es ++ overs i es))))))

-- whether the solver is asked
abbrev pub wants_plan : Input → List Entry → Bool
wants_plan i es = is_running es && (is_settled i es && is_none (verdict i es))

-- ---- members

-- an edit, or its refusal where there is one
abbrev pub edit_outcome : By → Edit → Option Refusal → Event
edit_outcome whose edit None = event.Edit whose edit
edit_outcome whose edit (Some why) = event.Refused whose why

-- what records an edit: it is accepted or refused
abbrev pub edit_event : Input → List Entry → By → Edit → Event
edit_event i es whose edit = edit_outcome whose edit (edit_refusal (edited i.domain (know i es) edit))

-- what records a unit
abbrev pub unit_event : Input → List Entry → ℕ → Name → Task → Event
unit_event i es r p unit.Work = event.UnitWork r p
unit_event i es r p (unit.Feedback percent text) = event.Feedback r p percent text
unit_event i es r p (unit.Edit edit) = edit_event i es (by.Performer r p) edit
unit_event i es r p (unit.Finish ok) = event.Finish r p ok

-- what a performer may do before any work, in the order in which it chooses: first it answers a request
abbrev pub answers : Name → List Entry → List Event
answers p es =
    flat_map (λ r. event.Offer r p ∷ event.Pass r p pass.Late ∷ event.Pass r p pass.Other ∷ event.Pass r p pass.Busy ∷ [])
    (all_requests es)

-- then it stops work on a cancelled act
abbrev pub stops : Name → List Entry → List Event
stops p es = map (λ r. event.Stopped r p) (all_requests es)

-- then it begins
abbrev pub beginnings : Name → List Entry → List Event
beginnings p es = map (λ r. event.Begin r p) (all_requests es)

-- a performer's choice before any work: the first of these that is legal, if one is
abbrev pub performed : Input → Name → List Entry → Option Event
performed i p es = find (is_legal i es) (answers p es ++ (stops p es ++ beginnings p es))

-- a request with a performer's next unit on it, where it has one
abbrev pub unit_on : Input → Name → List Entry → ℕ → Option (ℕ × Task)
unit_on i p es r = option_map (λ u. (r, u)) (next_unit i r p es)

-- the first of a list
abbrev pub head_of : {A : Type 0} → List A → Option A
head_of [] = None
head_of (x ∷ xs) = Some x

-- the request that a performer works on, and its next unit there
abbrev pub work_of : Input → Name → List Entry → Option (ℕ × Task)
work_of i p es = head_of (filter_map (unit_on i p es) (all_requests es))

-- a performer's turn, in which it does its work at once
abbrev pub performer_turn : Input → Name → List Entry → Option Event
performer_turn i p es = option_or (performed i p es) (option_map (λ w. unit_event i es w.0 p w.1) (work_of i p es))

-- an observer's turn: its next edit, where it may be made now
abbrev pub observer_turn : Input → Name → List Entry → Option Event
observer_turn i o es = option_map (edit_event i es (by.Observer o)) (next_seen i o es)

-- ---- turns in order

-- a solver, by what it answers for a domain, what is known and a budget
abbrev pub Says : Type 0
Says = Domain → Knowledge → ℕ → Answer

-- what follows a solver's answer: a plan goes on with the run, and any other answer ends it
abbrev pub planned : Answer → Option Event
planned (answer.Plan plan) = Some (event.Replan plan)
planned other = option_map event.Over (given_up other)

-- the ticker's turn, in which the solver answers at once
abbrev pub ticker_turn : Says → Input → List Entry → Option Event
ticker_turn says i es =
    option_or (ticked i es) (if wants_plan i es then planned (says i.domain (know i es) i.budget) else None)

-- who takes turns: each member, and then the ticker
pub data Actor : Type 0 where
  performs : Name → Actor
  observes : Name → Actor
  ticks : Actor

-- a member as one who takes turns
abbrev pub actor_of : Member → Actor
actor_of (member.Performer p) = performs p.name
actor_of (member.Observer o) = observes o.name

-- all who take turns, in order
abbrev pub actors : Input → List Actor
actors i = map actor_of i.members ++ ticks ∷ []

-- what one of them does
abbrev pub act_turn : Says → Input → List Entry → Actor → Option Event
act_turn says i es (performs p) = performer_turn i p es
act_turn says i es (observes o) = observer_turn i o es
act_turn says i es ticks = ticker_turn says i es

-- what one of them does where a run is open, and nothing where none is
abbrev pub turn : Says → Input → List Entry → Option Actor → Option Event
turn says i es actor = if is_running es then option_and_then (act_turn says i es) actor else None

-- these entries, and then the block of an event with this hand
abbrev pub with_block : Input → ℕ → List Entry → Event → List Entry
with_block i hand es e = es ++ record { hand = hand; what = e } ∷ forced i es (record { hand = hand; what = e })

-- the entries after the turn with this number, from 0: each takes turns in order, again and again
abbrev pub after_turn : Says → Input → ℕ → List Entry → List Entry
after_turn says i n es =
    option_map_or (with_block i 1 es) (turn says i es (slice_get (actors i) (n % length (actors i)))) es

-- the entries after so many turns
abbrev pub ordered : Says → Input → List Entry → ℕ → List Entry
ordered says i es zero = es
ordered says i es (suc n) = after_turn says i n (ordered says i es n)

-- ---- a whole session in order

-- the run for the goal that a solver's answer opens, where that is a plan
abbrev pub run_by : Answer → Option Event
run_by (answer.Plan plan) = Some (event.Run run.Goal plan)
run_by other = None

-- what answers a command that isn't refused; one whose file has no plan always is
abbrev pub command_event : Says → Input → List Entry → Command → Option Event
command_event says i es (command.Edit edit) = Some (event.Edit (by.Terminal (answered es + 1)) edit)
command_event says i es (command.Ask q) = Some (event.Ask q)
command_event says i es command.Run = run_by (says i.domain (know i es) i.budget)
command_event says i es (command.RunAction act) = Some (event.Run run.Action (act ∷ []))
command_event says i es (command.RunPlan (Ok steps)) = Some (event.Run run.Plan (acts_of steps))
command_event says i es (command.RunPlan (Err why)) = None
command_event says i es command.Quit = Some event.Quit

-- what answers a line, where this is why it is refused, if it is; a bad line always is
abbrev pub answer_event : Says → Input → List Entry → Line → Option Refusal → Option Event
answer_event says i es line (Some why) = Some (event.Refused (by.Terminal (answered es + 1)) why)
answer_event says i es (Good command) None = command_event says i es command
answer_event says i es (Bad cause) None = None

-- what answers a line after these entries
abbrev pub line_event : Says → Input → List Entry → Line → Option Event
line_event says i es line = answer_event says i es line (refusal_of i es line)

-- the entries with the block that answers a line
abbrev pub with_line : Says → Input → List Entry → Line → List Entry
with_line says i es line = option_map_or (with_block i 0 es) (line_event says i es line) es

-- the entries after a line and, where it opens a run, so many turns of that run; nothing more is answered while a run is open
abbrev pub after_line : Says → Input → ℕ → List Entry → Line → List Entry
after_line says i n es line = if is_running es then es else ordered says i (with_line says i es line) n

-- the journal of a session whose members take turns in order, so many in each run
abbrev pub session_ordered : Says → Input → ℕ → List Entry
session_ordered says i n = fold (after_line says i n) [] (due_lines i.lines)
