use Rattle.std.proofs.Common.{arith, ◌∷◌, []}
use Rattle.ps_users.proofs.Growing.{grows_entered, grows_on, grows_same}
use Rattle.ps_users.proofs.Noted.{all_entered, one_entered}
use Rattle.ps_users.proofs.users.Users.enter_all.Goals as goal

pub loop-one-preserved : goal.loop-one-preserved
loop-one-preserved c = record {
  entered = one_entered c.args.self.now c.loop-one.self c.enter.new.self c.args.touched.now c.loop-one.one-index c.args.act c.one-item.result c.loop-one-test.true c.one-item.is c.loop-one.invariant.entered c.in_ok-enter.ensures.ok;
  grown = grows_on c.args.self.now c.loop-one.self c.enter.new.self c.args.act c.loop-one.invariant.grown (grows_entered c.loop-one.self c.enter.new.self (c.one-item.result ∷ []) c.args.act c.in_ok-enter.ensures.ok);
}

pub returns-clause-ok : goal.returns-clause-ok
returns-clause-ok c =
    all_entered c.args.self.now c.loop-one.self c.args.touched.now c.loop-one.one-index c.args.act (omega arith) c.loop-one.invariant.entered

pub returns-in_err-enter-clause-more : goal.returns-in_err-enter-clause-more
returns-in_err-enter-clause-more c =
    grows_on c.args.self.now c.loop-one.self c.enter.new.self c.args.act c.loop-one.invariant.grown (grows_same c.loop-one.self c.enter.new.self c.args.act c.in_err-enter.ensures.err)
