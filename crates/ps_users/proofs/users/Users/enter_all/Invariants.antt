use Rattle.std.proofs.Common.{take}
use Rattle.ps_users.specs.Users.{Enters, GrowsBy}
use Rattle.ps_users.proofs.users.Users.enter_all.Given as goal

abbrev pub invariant-loop-one : goal.invariant-loop-one
invariant-loop-one l = record {
  entered : Enters l.fn.self (take l.one-index l.touched) l.act l.self;
  grown : GrowsBy l.fn.self l.act l.self;
}
