use Rattle.std.proofs.Common.{◌≡◌, List, ◌++◌, map}
use Rattle.std.specs.List.{All}
use Rattle.ps_turn.specs.Books.{Place, IsFree}
use Rattle.ps_turn.specs.Seats.{place_note, IsKeeper}
use Rattle.ps_turn.proofs.book.TurnBook.gather.Given as goal

abbrev pub invariant-loop-next : goal.invariant-loop-next
invariant-loop-next g l =
    (l.keeper.table_id ≡ l.self.identity)
    × IsKeeper l.fn.last l.keeper.me.0
    × All (IsFree l.self) l.seats.items
    × ((joined : List Place) × (l.fn.seats.items ≡ l.seats.items ++ joined) × (l.keeper.me.0.notes ≡ map place_note joined))

abbrev pub decreases-loop-next : goal.decreases-loop-next
decreases-loop-next g l = goal.left-loop-next g l
