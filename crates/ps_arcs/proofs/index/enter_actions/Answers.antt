use Rattle.std.proofs.Common.{arith}
use Rattle.ps_action.specs.Arcs.{changes, reads}
use Rattle.ps_arcs.proofs.Noted.{all_used, one_used}
use Rattle.ps_arcs.proofs.index.enter_actions.Goals as goal

pub loop-place-preserved : goal.loop-place-preserved
loop-place-preserved c =
    let gs = c.args.actions.now in
    let k = c.loop-place.place in
    let a = c.index-actions-place.result in
    record {
      read = one_used reads gs k a c.loop-place.readers c.enter.new.readers c.loop-place-test.true c.index-actions-place.is c.loop-place.invariant.read c.in_ok-enter.ensures.reads;
      changed = one_used changes gs k a c.loop-place.changers c.enter.new.changers c.loop-place-test.true c.index-actions-place.is c.loop-place.invariant.changed c.in_ok-enter.ensures.changes;
    }

pub returns : goal.returns
returns c =
    let gs = c.args.actions.now in
    let k = c.loop-place.place in
    record {
      read = all_used reads gs k c.loop-place.readers (omega arith) c.loop-place.invariant.read;
      changed = all_used changes gs k c.loop-place.changers (omega arith) c.loop-place.invariant.changed;
    }
