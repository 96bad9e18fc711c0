use Rattle.std.proofs.Common.{take, [], ◌∷◌}
use Rattle.std.specs.List.{list_any}
use Rattle.ps_users.specs.Users.{Marks, uses_one}
use Rattle.ps_users.proofs.users.mark_wide.Given as goal

abbrev pub invariant-loop-place : goal.invariant-loop-place
invariant-loop-place l = Marks l.initial.flags (λ j. list_any (λ e. uses_one l.touched j (e.0, e.1 ∷ [])) (take l.place-index l.wide)) l.flags
