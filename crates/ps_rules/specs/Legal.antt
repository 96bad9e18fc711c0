-- The table of events: which event may come after which entries.
use Rattle.std.specs.Prelude.{ℕ, ◌+◌, ◌==◌, nat_le, nat_lt, Bool, true, false, not, ◌&&◌, ◌||◌, if◌then◌else◌, Option, Some, None, is_none, is_some, is_ok, option_and_then, Ok, List, [], ◌∷◌, length, slice_get}
use Rattle.std.specs.List.{list_all, list_any}
use Rattle.std.specs.Option.{option_map_or}
use Rattle.ps_world.specs.Lines.{same_text}
use Rattle.ps_world.specs.Names.{same_name}
use Rattle.ps_world.specs.Knowledge.{edited}
use Rattle.ps_world.specs.declared.names.Name.{Name}
use Rattle.ps_world.specs.declared.domains.Domain.{Domain}
use Rattle.ps_world.specs.declared.known.Knowledge.{Knowledge}
use Rattle.ps_world.specs.declared.edits.Edit.{Edit}
use Rattle.ps_action.specs.Grounding.{ground_act}
use Rattle.ps_action.specs.Plans.{judged}
use Rattle.ps_action.specs.Search.{answer as answered_by}
use Rattle.ps_action.specs.declared.acts.Act.{Act}
use Rattle.ps_action.specs.declared.answers.Answer.{Answer}
use Rattle.ps_action.specs.declared.answers.Answer.TheVariants as answer
use Rattle.ps_machine.specs.declared.inputs.Query.{Query}
use Rattle.ps_machine.specs.declared.inputs.Command.TheVariants as command
use Rattle.ps_machine.specs.declared.inputs.Line.{Line}
use Rattle.ps_machine.specs.declared.inputs.Line.TheVariants.{Good}
use Rattle.ps_machine.specs.declared.inputs.Input.{Input}
use Rattle.ps_machine.specs.declared.members.Unit.{Unit as Task}
use Rattle.ps_machine.specs.declared.members.Unit.TheVariants as unit
use Rattle.ps_machine.specs.declared.members.Performer.{Performer}
use Rattle.ps_machine.specs.declared.journal.By.TheVariants as by
use Rattle.ps_machine.specs.declared.journal.Refusal.{Refusal}
use Rattle.ps_machine.specs.declared.journal.RunKind.{RunKind}
use Rattle.ps_machine.specs.declared.journal.RunKind.TheVariants as run
use Rattle.ps_machine.specs.declared.journal.PassWhy.{PassWhy}
use Rattle.ps_machine.specs.declared.journal.PassWhy.TheVariants as pass
use Rattle.ps_machine.specs.declared.journal.FailWhy.TheVariants as fail
use Rattle.ps_machine.specs.declared.journal.Outcome.{Outcome}
use Rattle.ps_machine.specs.declared.journal.Event.{Event}
use Rattle.ps_machine.specs.declared.journal.Event.TheVariants as event
use Rattle.ps_machine.specs.declared.journal.Entry.{Entry}
use Rattle.ps_rules.specs.Runs.{is_active, is_running, plan, state}
use Rattle.ps_rules.specs.Auctions.{confirmed, finish_of, first_offer, has_answered, has_begun, has_offered, is_engaged, is_for_active, is_for_cancelled, is_of_run, is_open, is_rejected, is_through, is_unserved, offers, pass_of, request_of, requests}
use Rattle.ps_rules.specs.Known.{know}
use Rattle.ps_rules.specs.Lines.{acts_of, answered, answers_line, edit_refusal, next_line, refusal_of}
use Rattle.ps_rules.specs.Members.{matches, matches_request, next_edit, next_seen, next_unit, performer_of, performers}
use Rattle.ps_rules.specs.Same.{same_acts, same_cause, same_edit, same_outcome, same_query}
use Rattle.ps_rules.specs.Settled.{any_harmed, ends_well, given_up, is_ready, is_settled, is_startable, may_end, may_go_on, verdict}

-- ---- what is the same

-- whether this is the edit that is said, if one is
abbrev pub is_edit : Edit → Option Edit → Bool
is_edit edit said = option_map_or (same_edit edit) said false

-- whether this is the cause that is given, if one is
abbrev pub is_cause : Refusal → Option Refusal → Bool
is_cause why given = option_map_or (same_cause why) given false

-- whether this is the outcome that is given, if one is
abbrev pub is_outcome : Outcome → Option Outcome → Bool
is_outcome how given = option_map_or (same_outcome how) given false

-- whether the next unit is some work
abbrev pub is_work : Option Task → Bool
is_work (Some unit.Work) = true
is_work u = false

-- whether the next unit is this feedback
abbrev pub is_feedback : ℕ → List ℕ → Option Task → Bool
is_feedback percent text (Some (unit.Feedback p t)) = (percent == p) && same_text text t
is_feedback percent text u = false

-- whether two flags are the same
abbrev pub same_flag : Bool → Bool → Bool
same_flag true b = b
same_flag false b = not b

-- whether the next unit is an end of this kind
abbrev pub is_finish : Bool → Option Task → Bool
is_finish ok (Some (unit.Finish b)) = same_flag ok b
is_finish ok u = false

-- ---- lines

-- the edit that a line says, if it says one
abbrev pub line_edit : Option Line → Option Edit
line_edit (Some (Good (command.Edit edit))) = Some edit
line_edit line = None

-- whether a line asks this query
abbrev pub is_query : Query → Option Line → Bool
is_query q (Some (Good (command.Ask said))) = same_query q said
is_query q line = false

-- whether a line ends the session
abbrev pub is_quit : Option Line → Bool
is_quit (Some (Good command.Quit)) = true
is_quit line = false

-- whether a line isn't refused
abbrev pub is_accepted : Input → List Entry → Option Line → Bool
is_accepted i es line = is_none (option_and_then (refusal_of i es) line)

-- whether an answer is a plan of so many acts as these
abbrev pub is_as_long : List Act → Answer → Bool
is_as_long acts (answer.Plan least) = length acts == length least
is_as_long acts a = false

-- whether these acts are a good plan as short as that of the answer that is due
abbrev pub is_plan : Domain → Knowledge → ℕ → List Act → Bool
is_plan d k budget acts = is_ok (judged d k acts) && is_as_long acts (answered_by d k budget)

-- whether a run of this kind may be opened with these acts, where this is the next line: `run`, and the acts are a good plan as short
-- as that of the answer that is due; `run plan`, and they are its file's acts and a good plan; `run action`, and they are its one act,
-- which can be grounded
abbrev pub opens_with : Input → List Entry → RunKind → List Act → Option Line → Bool
opens_with i es run.Goal acts (Some (Good command.Run)) = is_plan i.domain (know i es) i.budget acts
opens_with i es run.Plan acts (Some (Good (command.RunPlan (Ok steps)))) =
    same_acts acts (acts_of steps) && is_ok (judged i.domain (know i es) acts)
opens_with i es run.Action acts (Some (Good (command.RunAction act))) =
    same_acts acts (act ∷ []) && is_ok (ground_act i.domain (know i es).instances act)
opens_with i es for acts line = false

-- ---- requests

-- why a performer would pass a request; nothing where it would offer
abbrev pub pass_reason : Performer → ℕ → List Entry → Option PassWhy
pass_reason p r es =
    if not (is_open r es) then Some pass.Late
    else (if not (matches_request p r es) then Some pass.Other
    else (if is_engaged p.name es then Some pass.Busy else None))

-- whether two performers passed for the same reason
abbrev pub same_pass : PassWhy → PassWhy → Bool
same_pass pass.Other pass.Other = true
same_pass pass.Busy pass.Busy = true
same_pass pass.Late pass.Late = true
same_pass x y = false

-- whether a performer passed for this reason
abbrev pub is_pass : PassWhy → Option PassWhy → Bool
is_pass why given = option_map_or (same_pass why) given false

-- whether this performer was confirmed
abbrev pub is_confirmed : ℕ → Name → List Entry → Bool
is_confirmed r p es = option_map_or (same_name p) (confirmed r es) false

-- whether a request is open and every performer passed it
abbrev pub is_passed : Input → ℕ → List Entry → Bool
is_passed i r es = is_open r es && list_all (λ p. is_some (pass_of r p.name es)) (performers i)

-- whether some performer passed a request since it was engaged
abbrev pub was_busy : Input → ℕ → List Entry → Bool
was_busy i r es = list_any (λ p. is_pass pass.Busy (pass_of r p.name es)) (performers i)

-- whether a performer does the act at this place of the plan
abbrev pub matches_act : Performer → ℕ → List Entry → Bool
matches_act p act es = option_map_or (matches p) (slice_get (plan es) act) false

-- whether some performer that does this act isn't engaged
abbrev pub is_wanted : Input → List Entry → ℕ → Bool
is_wanted i es act = list_any (λ p. matches_act p act es && not (is_engaged p.name es)) (performers i)

-- whether a performer may be asked for an act, where this is its last request: it has none yet, or that one is unserved and a performer
-- that does the act isn't engaged
abbrev pub may_be_put_up : Input → List Entry → ℕ → Option ℕ → Bool
may_be_put_up i es act None = true
may_be_put_up i es act (Some r) = is_unserved r es && is_wanted i es act

-- whether the work on an act was finished, and well or badly as this says
abbrev pub is_finished : Bool → List Entry → ℕ → Bool
is_finished ok es act = option_map_or (λ b. same_flag ok b) (option_and_then (λ r. finish_of r es) (request_of act es)) false

-- whether this is the place of an act
abbrev pub is_place : List Entry → ℕ → Bool
is_place es act = nat_lt act (length (plan es))

-- whether an act is active
abbrev pub is_act_active : List Entry → ℕ → Bool
is_act_active es act = is_active (state act es)

-- how a settled run ends by its verdict, or, where that asks the solver, by the answer that is due; nothing where that is a plan
abbrev pub ending : Input → List Entry → Option Outcome → Option Outcome
ending i es (Some how) = Some how
ending i es None = given_up (answered_by i.domain (know i es) i.budget)

-- ---- the table

-- whether an event may come after these entries but for whether a run is open: the table of events, one equation a row
abbrev pub row_allows : Input → List Entry → Event → Bool
-- edit terminal N EDIT: line N is the next line and is this edit, and what is known accepts it
row_allows i es (event.Edit (by.Terminal n) edit) =
    (n == answered es + 1) && (is_edit edit (line_edit (next_line i es)) && is_ok (edited i.domain (know i es) edit))
-- edit performer R P EDIT: this edit is the next unit of P on R, and is accepted
row_allows i es (event.Edit (by.Performer r p) edit) =
    is_edit edit (next_edit i r p es) && is_ok (edited i.domain (know i es) edit)
-- edit observer O EDIT: this is the next unit of O, its condition holds, and it is accepted
row_allows i es (event.Edit (by.Observer o) edit) =
    is_edit edit (next_seen i o es) && is_ok (edited i.domain (know i es) edit)
-- refused terminal N CAUSE: line N is the next line, and CAUSE is its refusal
row_allows i es (event.Refused (by.Terminal n) why) =
    (n == answered es + 1) && is_cause why (option_and_then (refusal_of i es) (next_line i es))
-- refused performer R P CAUSE, refused observer O CAUSE: as the edit, and CAUSE is its refusal
row_allows i es (event.Refused (by.Performer r p) why) =
    is_cause why (option_and_then (λ edit. edit_refusal (edited i.domain (know i es) edit)) (next_edit i r p es))
row_allows i es (event.Refused (by.Observer o) why) =
    is_cause why (option_and_then (λ edit. edit_refusal (edited i.domain (know i es) edit)) (next_seen i o es))
-- ask QUERY: it is the next line, and isn't refused
row_allows i es (event.Ask q) = is_query q (next_line i es) && is_accepted i es (next_line i es)
-- run KIND ACT*: the next line is of this kind, and the acts are those that it calls for
row_allows i es (event.Run for acts) = opens_with i es for acts (next_line i es)
-- quit: it is the next line
row_allows i es event.Quit = is_quit (next_line i es)
-- start I: I is ready and startable, and no act of the plan failed or was cancelled
row_allows i es (event.Start act) = is_place es act && (is_ready i es act && (is_startable i es act && not (any_harmed es)))
-- request R I: R is the number of requests so far, I is active, and a performer may be asked for it
row_allows i es (event.Request r act) = (r == requests es) && (is_act_active es act && may_be_put_up i es act (request_of act es))
-- offer R P: P hasn't answered R, R is open, P does its act and isn't engaged
row_allows i es (event.Offer r p) =
    option_map_or (λ performer. not (has_answered r p es) && is_none (pass_reason performer r es)) (performer_of i p) false
-- pass R P WHY: R is of this run, P hasn't answered it, and WHY is its reason
row_allows i es (event.Pass r p why) =
    option_map_or (λ performer. is_of_run r es && (not (has_answered r p es) && is_pass why (pass_reason performer r es)))
    (performer_of i p) false
-- confirm R P: R is open, and P's is the first offer on it
row_allows i es (event.Confirm r p) = is_open r es && option_map_or (same_name p) (first_offer (offers r es)) false
-- reject R P: P offered, was neither confirmed nor rejected, and another was confirmed or the act is cancelled
row_allows i es (event.Reject r p) =
    has_offered r p es
    && (not (is_rejected r p es) && (not (is_confirmed r p es) && (is_some (confirmed r es) || is_for_cancelled r es)))
-- begin R P: P was confirmed on R and hasn't begun it, and its act is active
row_allows i es (event.Begin r p) = is_confirmed r p es && (not (has_begun r p es) && is_for_active r es)
-- unitwork R P, feedback R P N TEXT, finish R P ok or fail: this is the next unit of P on R
row_allows i es (event.UnitWork r p) = is_work (next_unit i r p es)
row_allows i es (event.Feedback r p percent text) = is_feedback percent text (next_unit i r p es)
row_allows i es (event.Finish r p ok) = is_finish ok (next_unit i r p es)
-- unserved R: R is open, every performer passed it, and one of them was busy
row_allows i es (event.Unserved r) = is_passed i r es && was_busy i r es
-- end I: I is active, its performer finished well, its over-all and end conditions hold and its end effects are defined
row_allows i es (event.End act) =
    is_act_active es act && (is_finished true es act && (may_go_on i es act && (may_end i es act && ends_well i es act)))
-- fail I noperformer: I is active, and every performer passed its open request, none of them busy
row_allows i es (event.Fail act fail.NoPerformer) =
    is_act_active es act && option_map_or (λ r. is_passed i r es && not (was_busy i r es)) (request_of act es) false
-- fail I script: I is active, and its performer finished badly
row_allows i es (event.Fail act fail.Script) = is_act_active es act && is_finished false es act
-- fail I atend: it finished well, and the end condition is false
row_allows i es (event.Fail act fail.AtEnd) = is_act_active es act && (is_finished true es act && not (may_end i es act))
-- fail I effect: it finished well, the end condition holds, and the end effects aren't defined
row_allows i es (event.Fail act fail.Effect) =
    is_act_active es act && (is_finished true es act && (may_end i es act && not (ends_well i es act)))
-- cancel I WHY: only as a forced cancel
row_allows i es (event.Cancel act why) = false
-- stopped R P: P was confirmed on R and has neither finished nor stopped there, and the act is cancelled
row_allows i es (event.Stopped r p) = is_confirmed r p es && (not (is_through r p es) && is_for_cancelled r es)
-- replan ACT*: the run is settled, the solver is asked, and the acts are a good plan as short as that of the answer that is due
row_allows i es (event.Replan acts) =
    is_settled i es && (is_none (verdict i es) && is_plan i.domain (know i es) i.budget acts)
-- over WHY: the run is settled and ends so
row_allows i es (event.Over how) = is_settled i es && is_outcome how (ending i es (verdict i es))

-- whether an event may come after these entries: it fits, and no run is open where it answers a line, and one is open where it doesn't
abbrev pub is_legal : Input → List Entry → Event → Bool
is_legal i es e = same_flag (answers_line e) (not (is_running es)) && row_allows i es e

-- whether an event may have this hand: the terminal's is 0 and answers a line, every other is from 1 to 16
abbrev pub has_hand : Event → ℕ → Bool
has_hand e hand = if answers_line e then hand == 0 else (nat_le 1 hand && nat_le hand 16)
