use Rattle.std.proofs.Common.{take}
use Rattle.std.specs.List.{list_any}
use Rattle.ps_users.specs.Users.{Marks, uses}
use Rattle.ps_users.proofs.users.Users.mark_all.Given as goal

abbrev pub invariant-loop-one : goal.invariant-loop-one
invariant-loop-one l = Marks l.initial.flags (λ j. list_any (λ t. uses l.self t j) (take l.one-index l.touched)) l.flags
