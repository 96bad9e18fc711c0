-- That somebody can always go on while a run is open.
use Rattle.std.specs.Prelude.{Bool, ◌||◌, is_some, List, IsTrue}
use Rattle.std.specs.List.{list_any}
use Rattle.ps_machine.specs.declared.inputs.Input.{Input}
use Rattle.ps_machine.specs.declared.journal.Entry.{Entry}
use Rattle.ps_rules.specs.Runs.{is_running}
use Rattle.ps_rules.specs.Members.{observers, performers}
use Rattle.ps_rules.specs.History.{IsHistory}
use Rattle.ps_rules.specs.Choices.{observer_turn, performer_turn, ticked, wants_plan}
use Rattle.ps_rules.specs.Sound.{IsSound}

-- whether some performer would do something in its turn
abbrev pub any_performs : Input → List Entry → Bool
any_performs i es = list_any (λ p. is_some (performer_turn i p.name es)) (performers i)

-- whether some observer would do something in its turn
abbrev pub any_observes : Input → List Entry → Bool
any_observes i es = list_any (λ o. is_some (observer_turn i o.name es)) (observers i)

-- while a run of a sound input is open, the ticker has something to do, or the solver is asked, or some member would do something in its
-- turn
abbrev pub NoDeadEnd : Type 0
NoDeadEnd =
    (i : Input) (es : List Entry) → IsSound i → IsHistory i es → IsTrue (is_running es)
    → IsTrue (is_some (ticked i es) || (wants_plan i es || (any_performs i es || any_observes i es)))
