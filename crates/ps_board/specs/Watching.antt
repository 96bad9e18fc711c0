-- How an event changes what is watched.
use Rattle.std.specs.Prelude.{◌≡◌, ℕ, ◌<◌, ◌==◌, if◌then◌else◌, Option, Some, None, List}
use Rattle.ps_world.specs.Trees.{CondTree}
use Rattle.ps_action.specs.declared.acts.GroundAction.{GroundAction}
use Rattle.ps_machine.specs.declared.journal.Event.{Event}
use Rattle.ps_machine.specs.declared.journal.Event.TheVariants as event
use Rattle.ps_monitor.specs.declared.monitor.Monitor.{Monitor}
use Rattle.ps_monitor.specs.Watched.{watched}
use Rattle.ps_board.specs.Parts.{over_in}

-- an event that starts an act starts one of so many
abbrev pub StartsWithin : ℕ → Event → Type 0
StartsWithin n (event.Start act) = act < n
StartsWithin n e = Unit {0}

-- what is watched of an act where the act that an event starts is watched besides
abbrev pub watched_from : Event → List GroundAction → Monitor → ℕ → Option (List CondTree)
watched_from (event.Start started) gs m act = if act == started then Some (over_in gs act) else watched m act
watched_from e gs m act = watched m act

-- what is watched of an act where the act that an event starts isn't watched
abbrev pub watched_without : Event → Monitor → ℕ → Option (List CondTree)
watched_without (event.Start started) m act = if act == started then None else watched m act
watched_without e m act = watched m act

-- what is watched of an act where the act that an event ends is watched no longer, and none after a new plan
abbrev pub watched_after : Event → Monitor → ℕ → Option (List CondTree)
watched_after (event.Run for acts) m act = None
watched_after (event.Replan acts) m act = None
watched_after (event.End ended) m act = if act == ended then None else watched m act
watched_after (event.Fail ended why) m act = if act == ended then None else watched m act
watched_after (event.Cancel ended why) m act = if act == ended then None else watched m act
watched_after e m act = watched m act

-- what a monitor watches is this
abbrev pub IsWatchedAs : Monitor → (ℕ → Option (List CondTree)) → Type 0
IsWatchedAs m says = (act : ℕ) → watched m act ≡ says act
