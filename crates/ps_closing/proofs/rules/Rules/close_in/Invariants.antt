use Rattle.std.proofs.Common.{◌+◌, length}
use Rattle.ps_closing.specs.Closing.{Grows, unset}
use Rattle.ps_closing.specs.Users.{AreSeen}
use Rattle.ps_closing.proofs.rules.Rules.close_in.Given as goal

-- each rule was looked at, or a place that it needs is still to be
abbrev pub invariant-loop-place : goal.invariant-loop-place
invariant-loop-place l = record {
  seen : AreSeen l.out l.self l.flags l.queue.items;
  grows : Grows l.out l.self l.fn.flags l.flags;
}

-- a place is looked at once at most
abbrev pub decreases-loop-place : goal.decreases-loop-place
decreases-loop-place l = unset l.flags + length l.queue.items
