use Rattle.std.proofs.Common.{List, length, ap, sym, ◌∙◌}
use Rattle.ps_action.specs.declared.acts.Act.{Act}
use Rattle.ps_expand.specs.declared.differences.Difference.{Difference}
use Rattle.ps_expand.proofs.Reaching.{count}
use Rattle.ps_expand.proofs.reached.Reached.len.Goals as goal

pub returns : goal.returns
returns c =
    let keys = c.self.inside.differences.keys in
    let acts = c.self.inside.acts.items in
    c.len.ensures.len ∙ c.self.invariant.even ∙ sym (count keys c.self.inside.trail acts c.self.invariant)
    ∙ ap (λ (l : List (Difference × List Act)). length l) c.self.view_is
