use Rattle.std.proofs.Common.{take}
use Rattle.ps_closing.specs.Closing.{Grows}
use Rattle.ps_closing.specs.Users.{AreSeen}
use Rattle.ps_closing.proofs.closing.apply_all.Given as goal

-- the rules so far were looked at
abbrev pub invariant-loop-rule : goal.invariant-loop-rule
invariant-loop-rule l = record {
  seen : AreSeen l.out (take l.rule-index l.rules) l.flags l.queue.items;
  grows : Grows l.out l.rules l.initial.flags l.flags;
}
