use Rattle.std.proofs.Common.{length, sym, ◌∙◌, arith}
use Rattle.ps_rules.specs.Runs.{plan}
use Rattle.ps_rules.specs.Settled.{is_ready}
use Rattle.ps_state.proofs.Places.{none-more, some-below}
use Rattle.ps_state.proofs.state.State.any_ready.Goals as goal

pub returns-then-is_ready : goal.returns-then-is_ready
returns-then-is_ready c = λ i es s.
    sym (some-below (is_ready i es) (length (plan es)) c.loop-act.act (omega (arith, c.count-act-end.ensures.count i es s)) (sym (c.is_ready.ensures i es s) ∙ c.if-is_ready.true))

pub loop-act-preserved : goal.loop-act-preserved
loop-act-preserved c = λ i es s.
    none-more (is_ready i es) c.loop-act.act (c.loop-act.invariant i es s) (sym (c.is_ready.ensures i es s) ∙ c.if-is_ready.false)
