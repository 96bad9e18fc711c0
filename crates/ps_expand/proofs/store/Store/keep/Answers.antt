use Rattle.std.proofs.Common.{ap, ◌∙◌}
use Rattle.ps_expand.specs.Differences.{back}
use Rattle.ps_expand.specs.Reached.{with_difference}
use Rattle.ps_expand.specs.declared.differences.Difference.{Difference}
use Rattle.ps_expand.proofs.store.Store.keep.Goals as goal

pub returns-clause-back : goal.returns-clause-back
returns-clause-back c = c.in_ok-back.ensures ∙ ap back c.in_ok-difference.ensures

pub returns-clause-reached : goal.returns-clause-reached
returns-clause-reached c =
    c.in_ok-meet.ensures
    ∙ ap (λ (x : Difference). with_difference c.args.most c.args.self.now.reached x c.args.from c.args.child.now.act) c.in_ok-difference.ensures
