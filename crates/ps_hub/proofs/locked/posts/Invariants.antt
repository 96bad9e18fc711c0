use Rattle.std.proofs.Common.{◌≡◌, length}
use Rattle.ps_hub.proofs.locked.posts.Given as goal

abbrev pub invariant-loop-desk : goal.invariant-loop-desk
invariant-loop-desk l = length l.posts.items ≡ length l.yielded
