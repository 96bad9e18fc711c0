use Rattle.std.proofs.Common.{◌≡◌, List, ◌++◌, map}
use Rattle.std.specs.List.{All}
use Rattle.crossbeam_queue.specs.Passes.{view as known}
use Rattle.ps_hub.specs.Belts.{DeskView}
use Rattle.ps_hub.specs.Closing.{desk_note}
use Rattle.ps_hub.specs.Passes.{IsTraysPass, with_notes}
use Rattle.ps_hub.proofs.belt.Belt.gather.Given as goal

abbrev pub invariant-loop-next : goal.invariant-loop-next
invariant-loop-next l =
    IsTraysPass l.self l.pass
    × All (λ d. d.belt ≡ l.self) l.desks.items
    × ((joined : List DeskView) × (l.fn.desks.items ≡ l.desks.items ++ joined) × (known l.pass ≡ with_notes (known l.initial.pass) (map desk_note joined)))

abbrev pub decreases-loop-next : goal.decreases-loop-next
decreases-loop-next l = goal.left-loop-next l
