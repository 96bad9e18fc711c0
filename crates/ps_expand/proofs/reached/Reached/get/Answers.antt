use Rattle.std.proofs.Common.{List, ap, sym, ◌∙◌}
use Rattle.std.specs.Prelude.{slice_get}
use Rattle.ps_action.specs.declared.acts.Act.{Act}
use Rattle.ps_expand.specs.Reached.{keys_in}
use Rattle.ps_expand.specs.declared.differences.Difference.{Difference}
use Rattle.ps_expand.proofs.Reaching.{keys_are}
use Rattle.ps_expand.proofs.reached.Reached.get.Goals as goal

pub returns : goal.returns
returns c =
    let keys = c.self.inside.differences.keys in
    c.get_index.ensures.key
    ∙ ap (λ l. slice_get l c.args.place) (sym (keys_are keys c.self.inside.trail c.self.inside.acts.items c.self.invariant))
    ∙ ap (λ (l : List (Difference × List Act)). slice_get (keys_in l) c.args.place) c.self.view_is
