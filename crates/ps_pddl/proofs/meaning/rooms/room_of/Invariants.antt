use Rattle.std.proofs.Common.{◌≤◌}
use Rattle.ps_pddl.proofs.meaning.rooms.room_of.Given as goal

-- no more than there were parts
abbrev pub invariant-loop-part : goal.invariant-loop-part
invariant-loop-part l = (l.room.at_start ≤ l.part-index) × ((l.room.over_all ≤ l.part-index) × (l.room.at_end ≤ l.part-index))
