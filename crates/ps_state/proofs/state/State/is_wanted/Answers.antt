use Rattle.std.proofs.Common.{ap, sym, ◌∙◌, arith}
use Rattle.ps_rules.specs.Members.{as_performer}
use Rattle.ps_state.specs.Names.{can_serve, is_at_hand}
use Rattle.ps_state.proofs.Rest.{picked-any-off, picked-any-on}
use Rattle.ps_state.proofs.state.State.is_wanted.Goals as goal

pub returns-then-can_serve : goal.returns-then-can_serve
returns-then-can_serve c = λ es s.
    sym (c.loop-member.invariant es s
    ∙ picked-any-off as_performer (λ p. is_at_hand p c.args.act es) c.as_slice-member-items.result.now c.loop-member.member-index c.member-item.result (omega arith)
    (ap (can_serve c.args.act es) (sym c.member-item.is) ∙ sym (c.can_serve.ensures c.args.input.now es s) ∙ c.if-can_serve.true))

pub loop-member-preserved : goal.loop-member-preserved
loop-member-preserved c = λ es s.
    c.loop-member.invariant es s
    ∙ picked-any-on as_performer (λ p. is_at_hand p c.args.act es) c.as_slice-member-items.result.now c.loop-member.member-index c.member-item.result (omega arith)
    (ap (can_serve c.args.act es) (sym c.member-item.is) ∙ sym (c.can_serve.ensures c.args.input.now es s) ∙ c.if-can_serve.false)
