use Rattle.std.proofs.Common.{take}
use Rattle.ps_closing.specs.Closing.{Gives}
use Rattle.ps_closing.specs.Users.{Queues}
use Rattle.ps_closing.proofs.closing.give.Given as goal

-- the places so far are set
abbrev pub invariant-loop-place : goal.invariant-loop-place
invariant-loop-place l = record {
  gives : Gives l.out (take l.place-index l.places) l.initial.flags l.flags;
  queues : Queues l.initial.flags l.flags l.fn.queue.items l.queue.items;
}
