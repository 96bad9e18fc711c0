use Rattle.std.proofs.Common.{map}
use Rattle.std.specs.List.{list_any}
use Rattle.std.specs.Map.Iter.{deref_pair}
use Rattle.ps_users.specs.Singles.{touched_of}
use Rattle.ps_users.specs.Users.{Marks, uses_one}
use Rattle.ps_users.proofs.users.mark_met.Given as goal

abbrev pub invariant-loop-thing : goal.invariant-loop-thing
invariant-loop-thing l = Marks l.initial.flags (λ j. list_any (λ e. uses_one l.touched j (touched_of e.0, e.1)) (map deref_pair l.yielded)) l.flags
