use Rattle.std.proofs.Common.{ap, ◌∙◌}
use Rattle.ps_expand.specs.Joining.{value_after}
use Rattle.ps_expand.proofs.Known.{value_put}
use Rattle.ps_expand.proofs.during.DuringKnown.value.Goals as goal

pub returns : goal.returns
returns c =
    let w = c.args.self.now in
    let f = c.args.term.now in
    c.value_after.ensures ∙ ap (λ o. value_after o w.ready.now f) c.value.ensures ∙ value_put f w.before.now.values w.ready.now
