use Rattle.std.proofs.Common.{List, length, ap, sym, ◌∙◌, rules}
use Rattle.std.proofs.lemmas.List.FromFn.{length-map-range_with_len}
use Rattle.ps_action.specs.Trees.{waits_for}
use Rattle.ps_tree.proofs.tree.Tree.build.Goals as goal

pub invariant_of-result : goal.invariant_of-result
invariant_of-result c = (
  ap (λ (l : List _). length l) c.in_ok-waits.ensures ∙ length-map-range_with_len (waits_for c.args.arcs.now.pairs) 0 c.args.arcs.now.acts ∙ sym c.acts-acts.ensures,
  search rules,
)
