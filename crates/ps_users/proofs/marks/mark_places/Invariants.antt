use Rattle.std.proofs.Common.{nat_eq, take}
use Rattle.std.specs.List.{list_any}
use Rattle.ps_users.specs.Users.{Marks}
use Rattle.ps_users.proofs.marks.mark_places.Given as goal

abbrev pub invariant-loop-place : goal.invariant-loop-place
invariant-loop-place l = Marks l.initial.flags (λ j. list_any (nat_eq j) (take l.place-index l.places)) l.flags
