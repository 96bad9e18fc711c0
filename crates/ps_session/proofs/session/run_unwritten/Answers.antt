use Rattle.std.proofs.Common.{◌≡◌, ◌∙◌, ap, length, rules, subst}
use Rattle.ps_rules.specs.History.{IsHistory}
use Rattle.ps_session.specs.Lines.{Advances}
use Rattle.ps_session.proofs.Journals.{journal-of}
use Rattle.ps_session.proofs.Writing.{begun-on, no-line-left}
use Rattle.ps_session.specs.declared.ways.Turns.TheVariants.{InOrder}
use Rattle.ps_session.proofs.session.run_unwritten.Goals as goal

pub returns-then-came-entries : goal.returns-then-came-entries
returns-then-came-entries g c =
    let says = g.S.Solver.says c.args.solver.now in
    let i = c.args.board.now.input in
    let new = c.advance.new.board in
    let went : Advances InOrder says i c.loop.board new c.in_ok-came.came =
    subst (λ j. Advances InOrder says j c.loop.board new c.in_ok-came.came) c.loop.invariant.idle.input c.in_ok-came.ensures in
    let history : IsHistory i new.entries = subst (λ j. IsHistory j new.entries) went.idle.input c.entries.ensures.history in
    let end : c.in_ok-came.came.from ≡ length c.entries.result.now = search rules in
    let same : c.in_ok-came.came.from ≡ length new.entries = end ∙ ap length c.entries.ensures.entries in
    journal-of InOrder says i new.entries c.requires.solver (begun-on InOrder says i c.loop.board new c.in_ok-came.came went c.loop.invariant.begun) history
    (no-line-left InOrder says i c.loop.board new c.in_ok-came.came went same) went.idle.closed

pub loop-preserved : goal.loop-preserved
loop-preserved g c =
    let says = g.S.Solver.says c.args.solver.now in
    let i = c.args.board.now.input in
    let new = c.advance.new.board in
    let went : Advances InOrder says i c.loop.board new c.in_ok-came.came =
    subst (λ j. Advances InOrder says j c.loop.board new c.in_ok-came.came) c.loop.invariant.idle.input c.in_ok-came.ensures in
    record {
      next = tt;
      finite = tt;
      idle = went.idle;
      begun = begun-on InOrder says i c.loop.board new c.in_ok-came.came went c.loop.invariant.begun;
    }

pub loop-preserved-else-came-entries : goal.loop-preserved-else-came-entries
loop-preserved-else-came-entries g c =
    let says = g.S.Solver.says c.args.solver.now in
    let i = c.args.board.now.input in
    let new = c.advance.new.board in
    let went : Advances InOrder says i c.loop.board new c.in_ok-came.came =
    subst (λ j. Advances InOrder says j c.loop.board new c.in_ok-came.came) c.loop.invariant.idle.input c.in_ok-came.ensures in
    record {
      next = tt;
      finite = tt;
      idle = went.idle;
      begun = begun-on InOrder says i c.loop.board new c.in_ok-came.came went c.loop.invariant.begun;
    }
