use Rattle.std.proofs.Common.{sym, ◌∙◌, arith}
use Rattle.ps_state.specs.Acts.{lets_go}
use Rattle.ps_state.proofs.Places.{all-more, fails-below}
use Rattle.ps_state.proofs.state.State.is_free.Goals as goal

pub returns-then-not-lets_go : goal.returns-then-not-lets_go
returns-then-not-lets_go c = λ i es s.
    sym (fails-below (lets_go i es c.args.act) c.args.act c.loop-j.j (omega arith) (sym (c.lets_go.ensures i es s) ∙ c.if-not-lets_go.true))

pub loop-j-preserved : goal.loop-j-preserved
loop-j-preserved c = λ i es s.
    all-more (lets_go i es c.args.act) c.loop-j.j (c.loop-j.invariant i es s) (sym (c.lets_go.ensures i es s) ∙ c.if-not-lets_go.false)
