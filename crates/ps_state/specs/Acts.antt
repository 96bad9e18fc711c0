-- Words of the table of events for acts.
use Rattle.std.specs.Prelude.{ℕ, Bool, true, false, not, ◌&&◌, ◌||◌, is_none, List}
use Rattle.std.specs.List.{list_all, list_any, range_with_len}
use Rattle.std.specs.Option.{option_map_or}
use Rattle.ps_action.specs.Arcs.{is_arc}
use Rattle.ps_machine.specs.declared.inputs.Input.{Input}
use Rattle.ps_machine.specs.declared.journal.Entry.{Entry}
use Rattle.ps_machine.specs.declared.members.Member.{Member}
use Rattle.ps_rules.specs.Runs.{is_done, plan, state}
use Rattle.ps_rules.specs.Auctions.{request_of}
use Rattle.ps_rules.specs.Known.{grounds}
use Rattle.ps_rules.specs.Legal.{is_passed, was_busy}
use Rattle.ps_rules.specs.Members.{as_observer, observers, seen_by}
use Rattle.ps_rules.specs.Settled.{is_ready, is_startable, places}

-- whether the last request for an act was passed by all, and by none since it was engaged
abbrev pub nobody_serves : Input → List Entry → ℕ → Bool
nobody_serves i es act = option_map_or (λ r. is_passed i r es && not (was_busy i r es)) (request_of act es) false

-- whether an act lets another one start: it has no arc to that one, or has ended
abbrev pub lets_go : Input → List Entry → ℕ → ℕ → Bool
lets_go i es act j = not (is_arc (grounds i.domain (plan es)) j act) || is_done (state j es)

-- whether each act before this one lets it start
abbrev pub is_free : Input → List Entry → ℕ → Bool
is_free i es act = list_all (lets_go i es act) (range_with_len 0 act)

-- whether some act of the plan is ready
abbrev pub any_ready : Input → List Entry → Bool
any_ready i es = list_any (is_ready i es) (places es)

-- whether an act isn't ready, or may not start
abbrev pub is_stuck : Input → List Entry → ℕ → Bool
is_stuck i es act = not (is_ready i es act) || not (is_startable i es act)

-- whether no act that is ready may start
abbrev pub none_startable : Input → List Entry → Bool
none_startable i es = list_all (is_stuck i es) (places es)

-- whether no observer can edit
abbrev pub none_sees : Input → List Entry → Bool
none_sees i es = list_all (λ o. is_none (seen_by i o es)) (observers i)

-- whether a member isn't an observer that can edit
abbrev pub sees_nothing : Input → List Entry → Member → Bool
sees_nothing i es m = option_map_or (λ o. is_none (seen_by i o es)) (as_observer m) true
