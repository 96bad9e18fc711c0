use Rattle.std.proofs.Common.{◌≡◌, length}
use Rattle.ps_closing.specs.Users.{HaveNone}
use Rattle.ps_closing.proofs.users.no_users.Given as goal

abbrev pub invariant-loop-place : goal.invariant-loop-place
invariant-loop-place l = record {
  wide : length l.users.items ≡ l._place;
  none : HaveNone l.users.items;
}
