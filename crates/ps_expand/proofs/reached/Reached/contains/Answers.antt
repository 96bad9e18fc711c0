use Rattle.std.proofs.Common.{List, ap, sym, ◌∙◌}
use Rattle.std.specs.List.{list_any}
use Rattle.ps_action.specs.declared.acts.Act.{Act}
use Rattle.ps_expand.specs.Orders.{same_difference}
use Rattle.ps_expand.specs.Reached.{keys_in}
use Rattle.ps_expand.specs.declared.differences.Difference.{Difference}
use Rattle.ps_expand.proofs.Reaching.{keys_are}
use Rattle.ps_expand.proofs.reached.Reached.contains.Goals as goal

pub returns : goal.returns
returns c =
    let keys = c.self.inside.differences.keys in
    let x = c.args.difference.now in
    c.contains.ensures
    ∙ ap (list_any (same_difference x)) (sym (keys_are keys c.self.inside.trail c.self.inside.acts.items c.self.invariant))
    ∙ ap (λ (l : List (Difference × List Act)). list_any (same_difference x) (keys_in l)) c.self.view_is
