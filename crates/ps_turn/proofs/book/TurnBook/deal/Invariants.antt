use Rattle.std.proofs.Common.{◌≡◌, ◌+◌, ◌-◌, [], map}
use Rattle.std.specs.List.{range_with_len}
use Rattle.std.specs.Prelude.{vec_len, vec_capacity}
use Rattle.ps_turn.specs.Books.{new_place}
use Rattle.ps_turn.specs.Seats.{founded_on}
use Rattle.ps_turn.specs.Turns.{dealing}
use Rattle.ps_turn.proofs.book.TurnBook.deal.Given as goal

abbrev pub invariant-loop-made : goal.invariant-loop-made
invariant-loop-made g l =
    (l.first.table_id ≡ l.self.identity)
    × (l.first.me ≡ (dealing (founded_on l.self) l.made, []))
    × (l.places.items ≡ map (new_place l.self) (range_with_len 2 (l.made - 1)))
    × (vec_len l.places + 1 ≡ l.made)
    × (vec_capacity l.places ≡ vec_capacity l.initial.places)
