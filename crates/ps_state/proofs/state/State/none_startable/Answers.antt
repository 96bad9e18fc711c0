use Rattle.std.proofs.Common.{length, sym, ◌∙◌, arith}
use Rattle.ps_rules.specs.Runs.{plan}
use Rattle.ps_state.specs.Acts.{is_stuck}
use Rattle.ps_state.proofs.Places.{all-more, fails-below}
use Rattle.ps_state.proofs.state.State.none_startable.Goals as goal

pub returns-then-not-is_stuck : goal.returns-then-not-is_stuck
returns-then-not-is_stuck c = λ i es s.
    sym (fails-below (is_stuck i es) (length (plan es)) c.loop-act.act (omega (arith, c.count-act-end.ensures.count i es s)) (sym (c.is_stuck.ensures i es s) ∙ c.if-not-is_stuck.true))

pub loop-act-preserved : goal.loop-act-preserved
loop-act-preserved c = λ i es s.
    all-more (is_stuck i es) c.loop-act.act (c.loop-act.invariant i es s) (sym (c.is_stuck.ensures i es s) ∙ c.if-not-is_stuck.false)
