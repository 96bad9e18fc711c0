use Rattle.std.proofs.Common.{take}
use Rattle.ps_closing.specs.Closing.{Grows}
use Rattle.ps_closing.specs.Users.{AreUsersSeen, Queues}
use Rattle.ps_closing.proofs.closing.apply_users.Given as goal

-- the users so far were looked at
abbrev pub invariant-loop-user : goal.invariant-loop-user
invariant-loop-user l = record {
  seen : AreUsersSeen l.out l.rules (take l.user-index l.users) l.flags l.queue.items;
  grows : Grows l.out l.rules l.initial.flags l.flags;
  queues : Queues l.initial.flags l.flags l.fn.queue.items l.queue.items;
}
