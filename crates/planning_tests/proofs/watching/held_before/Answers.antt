use Rattle.std.proofs.Common.{◌≡◌, ◌&&◌, Bool, true, false, not, sym, arith}
use Rattle.ps_monitor.specs.Hits.{is_hit}
use Rattle.ps_monitor.specs.Watched.{watched}
use Rattle.ps_arcs.proofs.Acting.{agree_itself}
use Rattle.planning_tests.proofs.watching.held_before.Goals as goal

-- what isn't amiss and isn't hit isn't broken
not_broken : (mark hit broken : Bool) → mark ≡ broken → (mark && not hit) ≡ false → hit ≡ false → broken ≡ false
not_broken true true broken is e h = absurd (cc)
not_broken true false broken is e h = absurd (cc)
not_broken false hit broken is e h = sym is

pub returns : goal.returns
returns c = λ t. record {
  before = c.args.problem.now;
  named = λ thing unnamed. agree_itself c.args.problem.now thing;
  held = λ act low unhit broken.
      not_broken _ (is_hit c.args.changed.now (watched c.args.monitor.now act)) _ (c.broken-broken.ensures.each act low) (c.loop-act.invariant act (omega (arith, low, c.loop-act-test.false))) unhit;
}
