-- The event that words tell. What they tell is printed again before it is believed, so words that are passed over do no harm.
use Rattle.std.specs.Prelude.{ℕ, ◌+◌, ◌^◌, ◌-◌, Bool, true, false, if◌then◌else◌, List, [], ◌∷◌, ◌++◌, codes, drop, length, nat_le, Option, Some, None}
use Rattle.std.specs.Option.{option_or, option_and_then, option_map}
use Rattle.ps_world.specs.Lines.{same_text}
use Rattle.ps_world.specs.declared.names.Name.{Name}
use Rattle.ps_action.specs.declared.acts.Act.{Act}
use Rattle.ps_machine.specs.declared.journal.By.{By}
use Rattle.ps_machine.specs.declared.journal.By.TheVariants as by
use Rattle.ps_machine.specs.declared.journal.RunKind.{RunKind}
use Rattle.ps_machine.specs.declared.journal.RunKind.TheVariants as kind
use Rattle.ps_machine.specs.declared.journal.PassWhy.{PassWhy}
use Rattle.ps_machine.specs.declared.journal.PassWhy.TheVariants as pass
use Rattle.ps_machine.specs.declared.journal.FailWhy.{FailWhy}
use Rattle.ps_machine.specs.declared.journal.FailWhy.TheVariants as fail
use Rattle.ps_machine.specs.declared.journal.CancelWhy.{CancelWhy}
use Rattle.ps_machine.specs.declared.journal.CancelWhy.TheVariants as cancel
use Rattle.ps_machine.specs.declared.journal.Outcome.{Outcome}
use Rattle.ps_machine.specs.declared.journal.Outcome.TheVariants as outcome
use Rattle.ps_machine.specs.declared.journal.Event.{Event}
use Rattle.ps_machine.specs.declared.journal.Event.TheVariants as event
use Rattle.ps_entries.specs.Words.{name_at, number_at, reads, short_at, up_to}
use Rattle.ps_entries.specs.Causes.{cause_at}

-- ---- words

-- why there is no offer
abbrev pub pass_at : List (List ℕ) → ℕ → Option PassWhy
pass_at ws at =
    if reads ws at (codes "other") then Some pass.Other
    else (if reads ws at (codes "busy") then Some pass.Busy
    else (if reads ws at (codes "late") then Some pass.Late
    else None))

-- why an act failed
abbrev pub fail_at : List (List ℕ) → ℕ → Option FailWhy
fail_at ws at =
    if reads ws at (codes "noperformer") then Some fail.NoPerformer
    else (if reads ws at (codes "script") then Some fail.Script
    else (if reads ws at (codes "atend") then Some fail.AtEnd
    else (if reads ws at (codes "effect") then Some fail.Effect
    else None)))

-- why an act was cancelled
abbrev pub cancel_at : List (List ℕ) → ℕ → Option CancelWhy
cancel_at ws at =
    if reads ws at (codes "overall") then Some cancel.OverAll
    else (if reads ws at (codes "stop") then Some cancel.Stop
    else None)

-- what a run is for
abbrev pub kind_at : List (List ℕ) → ℕ → Option RunKind
kind_at ws at =
    if reads ws at (codes "goal") then Some kind.Goal
    else (if reads ws at (codes "plan") then Some kind.Plan
    else (if reads ws at (codes "action") then Some kind.Action
    else None))

-- whether it went well
abbrev pub ok_at : List (List ℕ) → ℕ → Option Bool
ok_at ws at =
    if reads ws at (codes "ok") then Some true
    else (if reads ws at (codes "fail") then Some false
    else None)

-- how a run failed
abbrev pub failed_at : List (List ℕ) → ℕ → Option Outcome
failed_at ws at =
    if reads ws at (codes "act") then Some outcome.Act
    else (if reads ws at (codes "blocked") then Some outcome.Blocked
    else (if reads ws at (codes "nogoal") then Some outcome.NoGoal
    else (if reads ws at (codes "replans") then Some outcome.Replans
    else (if reads ws at (codes "noplan") then Some outcome.NoPlan
    else (if reads ws at (codes "toomany") then Some outcome.TooMany
    else (if reads ws at (codes "spent") then option_map (λ depth. outcome.Spent depth) (short_at ws (at + 1))
    else None))))))

-- how a run ended
abbrev pub outcome_at : List (List ℕ) → ℕ → Option Outcome
outcome_at ws at =
    if reads ws at (codes "success") then Some outcome.Success
    else (if reads ws at (codes "failed") then failed_at ws (at + 1)
    else None)

-- whose edit it is
abbrev pub by_of : List (List ℕ) → List Name → Option By
by_of ws ns =
    if reads ws 2 (codes "terminal") then option_map (λ n. by.Terminal n) (short_at ws 3)
    else (if reads ws 2 (codes "performer") then option_map (λ r. by.Performer r (name_at ns 4)) (number_at ws 3)
    else (if reads ws 2 (codes "observer") then Some (by.Observer (name_at ns 3))
    else None))

-- the place after whoever edits
abbrev pub place_after : By → ℕ
place_after (by.Performer r p) = 5
place_after b = 4

-- ---- acts

-- an action with its arguments, of which there are at most 6
abbrev pub act_of : List Name → Option Act
act_of [] = None
act_of (action ∷ args) = if nat_le (length args) 6 then Some (record { action = action; args = args }) else None

-- The acts so far and the names since the last `(`, after one more word: `)` makes an act of the names.
abbrev pub stepped : List Act → List Name → List ℕ → Name → Option (List Act × List Name)
stepped acts since w n =
    if same_text w (codes "(") then Some (acts, [])
    else (if same_text w (codes ")") then option_map (λ act. (acts ++ act ∷ [], [])) (act_of since)
    else Some (acts, since ++ n ∷ []))

-- The acts of words such as `(move leia hall) (move leia yard)`, after these acts, where these names stand since the last `(`.
abbrev pub acts_from : List Act → List Name → List (List ℕ) → List Name → Option (List Act)
acts_from acts since [] ns = Some acts
acts_from acts since (w ∷ ws) ns = option_and_then (λ now. acts_from now.0 now.1 ws (drop 1 ns)) (stepped acts since w (name_at ns 0))

-- the acts that stand from a place on
abbrev pub acts_at : List (List ℕ) → List Name → ℕ → Option (List Act)
acts_at ws ns at = acts_from [] [] (drop at ws) (drop at ns)

-- ---- events

-- what a performer does on a request
abbrev pub by_performer : List (List ℕ) → Name → ℕ → Option Event
by_performer ws p r =
    if reads ws 1 (codes "offer") then Some (event.Offer r p)
    else (if reads ws 1 (codes "confirm") then Some (event.Confirm r p)
    else (if reads ws 1 (codes "reject") then Some (event.Reject r p)
    else (if reads ws 1 (codes "begin") then Some (event.Begin r p)
    else (if reads ws 1 (codes "unitwork") then Some (event.UnitWork r p)
    else (if reads ws 1 (codes "stopped") then Some (event.Stopped r p)
    else (if reads ws 1 (codes "pass") then option_map (λ why. event.Pass r p why) (pass_at ws 4)
    else (if reads ws 1 (codes "finish") then option_map (λ ok. event.Finish r p ok) (ok_at ws 4)
    else None)))))))

-- what becomes of an act
abbrev pub of_act : List (List ℕ) → ℕ → Option Event
of_act ws act =
    if reads ws 1 (codes "start") then Some (event.Start act)
    else (if reads ws 1 (codes "end") then Some (event.End act)
    else (if reads ws 1 (codes "fail") then option_map (λ why. event.Fail act why) (fail_at ws 3)
    else (if reads ws 1 (codes "cancel") then option_map (λ why. event.Cancel act why) (cancel_at ws 3)
    else None)))

-- what becomes of a request
abbrev pub of_request : List (List ℕ) → ℕ → Option Event
of_request ws r =
    if reads ws 1 (codes "request") then option_map (λ act. event.Request r act) (short_at ws 3)
    else (if reads ws 1 (codes "unserved") then Some (event.Unserved r)
    else None)

-- an event with a number after its first word
abbrev pub numbered_event : List (List ℕ) → List Name → ℕ → Option Event
numbered_event ws ns n =
    option_or (by_performer ws (name_at ns 3) n)
    (option_or (of_request ws n) (option_and_then (of_act ws) (up_to (2 ^ 32 - 1) (Some n))))

-- why something was refused
abbrev pub refused_by : List (List ℕ) → List Name → By → Option Event
refused_by ws ns who = option_map (λ why. event.Refused who why) (cause_at ws ns (place_after who))

-- a run of a kind
abbrev pub run_of : List (List ℕ) → List Name → RunKind → Option Event
run_of ws ns what = option_map (λ acts. event.Run what acts) (acts_at ws ns 3)

-- the plan with which a run goes on
abbrev pub replan_of : List (List ℕ) → List Name → Option Event
replan_of ws ns = option_map (λ acts. event.Replan acts) (acts_at ws ns 2)

-- an event without acts, all of whose line is read word by word
abbrev pub short_event : List (List ℕ) → List Name → Option Event
short_event ws ns =
    if reads ws 1 (codes "quit") then Some event.Quit
    else (if reads ws 1 (codes "refused") then option_and_then (refused_by ws ns) (by_of ws ns)
    else (if reads ws 1 (codes "over") then option_map (λ how. event.Over how) (outcome_at ws 2)
    else option_and_then (numbered_event ws ns) (number_at ws 2)))

-- an event all of whose line is read word by word
abbrev pub plain_event : List (List ℕ) → List Name → Option Event
plain_event ws ns =
    if reads ws 1 (codes "run") then option_and_then (run_of ws ns) (kind_at ws 2)
    else (if reads ws 1 (codes "replan") then replan_of ws ns
    else short_event ws ns)

-- what a performer tells of its act, and this note
abbrev pub feedback_of : List (List ℕ) → List Name → List ℕ → Option Event
feedback_of ws ns note =
    option_and_then (λ r. option_map (λ percent. event.Feedback r (name_at ns 3) percent note) (up_to (2 ^ 8 - 1) (number_at ws 4))) (number_at ws 2)
