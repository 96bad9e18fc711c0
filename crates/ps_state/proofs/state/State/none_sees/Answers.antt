use Rattle.std.proofs.Common.{is_none, ap, sym, ◌∙◌, arith}
use Rattle.ps_rules.specs.Members.{as_observer, seen_by}
use Rattle.ps_state.specs.Acts.{sees_nothing}
use Rattle.ps_state.proofs.Rest.{picked-all-off, picked-all-on}
use Rattle.ps_state.proofs.state.State.none_sees.Goals as goal

pub returns-then-not-sees_nothing : goal.returns-then-not-sees_nothing
returns-then-not-sees_nothing c = λ es s.
    let i = c.args.input.now in
    sym (c.loop-member.invariant es s
    ∙ picked-all-off as_observer (λ o. is_none (seen_by i o es)) c.as_slice-member-items.result.now c.loop-member.member-index c.member-item.result (omega arith)
    (ap (sees_nothing i es) (sym c.member-item.is) ∙ sym (c.sees_nothing.ensures i es s) ∙ c.if-not-sees_nothing.true))

pub loop-member-preserved : goal.loop-member-preserved
loop-member-preserved c = λ es s.
    let i = c.args.input.now in
    c.loop-member.invariant es s
    ∙ picked-all-on as_observer (λ o. is_none (seen_by i o es)) c.as_slice-member-items.result.now c.loop-member.member-index c.member-item.result (omega arith)
    (ap (sees_nothing i es) (sym c.member-item.is) ∙ sym (c.sees_nothing.ensures i es s) ∙ c.if-not-sees_nothing.false)
