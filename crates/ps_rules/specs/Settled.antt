-- Which acts may start, when a run is settled, and how it ends.
use Rattle.std.specs.Prelude.{ℕ, nat_le, Bool, false, not, ◌&&◌, ◌||◌, if◌then◌else◌, Option, Some, None, is_none, List, [], ◌∷◌, length}
use Rattle.std.specs.List.{list_all, list_any, range_with_len}
use Rattle.ps_world.specs.CondViews.{cond_tree}
use Rattle.ps_world.specs.declared.conditions.Cond.{Cond}
use Rattle.ps_world.specs.declared.domains.Domain.{Domain}
use Rattle.ps_world.specs.declared.known.Knowledge.{Knowledge}
use Rattle.ps_action.specs.Arcs.{is_arc}
use Rattle.ps_action.specs.declared.answers.Answer.{Answer}
use Rattle.ps_action.specs.declared.answers.Answer.TheVariants as answer
use Rattle.ps_machine.specs.declared.inputs.Input.{Input}
use Rattle.ps_machine.specs.declared.journal.RunKind.{RunKind}
use Rattle.ps_machine.specs.declared.journal.RunKind.TheVariants as run
use Rattle.ps_machine.specs.declared.journal.Outcome.{Outcome}
use Rattle.ps_machine.specs.declared.journal.Outcome.TheVariants as outcome
use Rattle.ps_machine.specs.declared.journal.Entry.{Entry}
use Rattle.ps_rules.specs.Runs.{is_active, is_done, is_harmed, is_waiting, kind, plan, replans, state}
use Rattle.ps_rules.specs.Auctions.{is_engaged}
use Rattle.ps_rules.specs.Known.{are_defined, grounds, hold, know, part}
use Rattle.ps_rules.specs.Members.{observers, performers, seen_by}

-- ---- acts

-- the places of the acts of the plan
abbrev pub places : List Entry → List ℕ
places es = range_with_len 0 (length (plan es))

-- whether the start condition of an act holds now
abbrev pub may_start : Input → List Entry → ℕ → Bool
may_start i es act = hold i.domain (know i es) (part (λ g. g.conditions.at_start) i.domain (plan es) act)

-- whether the over-all condition of an act holds now
abbrev pub may_go_on : Input → List Entry → ℕ → Bool
may_go_on i es act = hold i.domain (know i es) (part (λ g. g.conditions.over_all) i.domain (plan es) act)

-- whether the end condition of an act holds now
abbrev pub may_end : Input → List Entry → ℕ → Bool
may_end i es act = hold i.domain (know i es) (part (λ g. g.conditions.at_end) i.domain (plan es) act)

-- whether the start effects of an act are defined now
abbrev pub starts_well : Input → List Entry → ℕ → Bool
starts_well i es act = are_defined i.domain (know i es) (part (λ g. g.effects.at_start) i.domain (plan es) act)

-- whether the end effects of an act are defined now
abbrev pub ends_well : Input → List Entry → ℕ → Bool
ends_well i es act = are_defined i.domain (know i es) (part (λ g. g.effects.at_end) i.domain (plan es) act)

-- whether an act is ready: it waits, and each act with an arc to it has ended
abbrev pub is_ready : Input → List Entry → ℕ → Bool
is_ready i es act =
    is_waiting (state act es)
    && list_all (λ j. not (is_arc (grounds i.domain (plan es)) j act) || is_done (state j es)) (range_with_len 0 act)

-- whether it is startable: its start condition holds, and its start effects are defined
abbrev pub is_startable : Input → List Entry → ℕ → Bool
is_startable i es act = may_start i es act && starts_well i es act

-- whether an act of the plan failed or was cancelled
abbrev pub any_harmed : List Entry → Bool
any_harmed es = list_any (λ act. is_harmed (state act es)) (places es)

-- ---- settled

-- whether a run is blocked: no act failed or was cancelled, some act is ready and none of those is startable, and no observer can edit
abbrev pub is_blocked : Input → List Entry → Bool
is_blocked i es =
    not (any_harmed es)
    && (list_any (is_ready i es) (places es)
    && (list_all (λ act. not (is_ready i es act) || not (is_startable i es act)) (places es)
    && list_all (λ o. is_none (seen_by i o es)) (observers i)))

-- whether a run is settled: no act is active, no performer is engaged, and an act failed or was cancelled, or all acts have ended, or
-- the run is blocked
abbrev pub is_settled : Input → List Entry → Bool
is_settled i es =
    list_all (λ act. not (is_active (state act es))) (places es)
    && (list_all (λ p. not (is_engaged p.name es)) (performers i)
    && (any_harmed es || (list_all (λ act. is_done (state act es)) (places es) || is_blocked i es)))

-- ---- how a settled run ends

-- whether the goal holds, where there is one
abbrev pub is_met : Domain → Knowledge → Option Cond → Bool
is_met d k None = false
is_met d k (Some goal) = hold d k (cond_tree goal ∷ [])

-- whether a run of this kind has reached its goal: its act has ended, or the goal that is known holds
abbrev pub is_reached : Input → List Entry → Option RunKind → Bool
is_reached i es (Some run.Action) = is_done (state 0 es)
is_reached i es for = is_met i.domain (know i es) (know i es).goal

-- how a run that hasn't reached its goal ends without the solver; nothing where the solver is asked
abbrev pub unreached : Input → List Entry → Option RunKind → Option Outcome
unreached i es (Some run.Action) = Some (if any_harmed es then outcome.Act else outcome.Blocked)
unreached i es for =
    if is_none (know i es).goal then Some outcome.NoGoal
    else (if nat_le i.replans (replans es) then Some (if is_blocked i es then outcome.Blocked else outcome.Replans) else None)

-- how a settled run ends without the solver; nothing where the solver is asked
abbrev pub verdict : Input → List Entry → Option Outcome
verdict i es = if is_reached i es (kind es) then Some outcome.Success else unreached i es (kind es)

-- how it ends by the solver's answer; nothing where that is a plan
abbrev pub given_up : Answer → Option Outcome
given_up (answer.Plan plan) = None
given_up answer.NoPlan = Some outcome.NoPlan
given_up (answer.Spent depth) = Some (outcome.Spent depth)
given_up answer.TooMany = Some outcome.TooMany
