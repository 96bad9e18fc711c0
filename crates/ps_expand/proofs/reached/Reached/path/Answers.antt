use Rattle.std.proofs.Common.{◌++◌, ◌∷◌, [], List, length, ap, sym, ◌∙◌, arith}
use Rattle.ps_action.specs.declared.acts.Act.{Act}
use Rattle.ps_expand.specs.Reached.{acts_at, path_in}
use Rattle.ps_expand.specs.declared.differences.Difference.{Difference}
use Rattle.ps_expand.proofs.Reaching.{count, path_is}
use Rattle.ps_expand.proofs.reached.Reached.path.Goals as goal

pub path-requires : goal.path-requires
path-requires c =
    let many = count c.self.inside.differences.keys c.self.inside.trail c.self.inside.acts.items c.self.invariant in
    let seen = ap (λ (l : List (Difference × List Act)). length l) c.self.view_is in
    omega (arith, many, seen, c.requires)

pub returns : goal.returns
returns c =
    let keys = c.self.inside.differences.keys in
    let trail = c.self.inside.trail in
    let acts = c.self.inside.acts.items in
    c.in_ok-push.ensures.ok
    ∙ ap (λ (l : List Act). l ++ c.args.act ∷ []) (c.in_ok-path.ensures
    ∙ (λ i. acts_at (c.deref.ensures.value i) ((c.deref-2.ensures.value ∙ c.in_ok-places.ensures) i))
    ∙ sym (path_is keys trail acts c.self.invariant c.args.place)
    ∙ ap (λ (l : List (Difference × List Act)). path_in l c.args.place) c.self.view_is)
