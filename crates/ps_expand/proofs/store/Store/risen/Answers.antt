use Rattle.std.proofs.Common.{ap, sym, ◌∙◌, subst}
use Rattle.ps_expand.specs.Trees.{IsTree, nodes_in}
use Rattle.ps_expand.specs.declared.store.Store.{Store}
use Rattle.ps_expand.proofs.Leading.{nothing_new}
use Rattle.ps_expand.proofs.Storing.{begins_with, first_node}
use Rattle.ps_expand.proofs.store.Store.risen.Goals as goal

pub returns-clause-nodes : goal.returns-clause-nodes
returns-clause-nodes c =
    let k = c.args.start.now in
    ap (λ (s : Store). nodes_in k s.reached) c.in_ok-new.ensures.ok ∙ ap (nodes_in k) c.in_ok-reached.ensures ∙ first_node k c.none.result c.requires (c.none.ensures ∙ sym (nothing_new k c.requires))

pub returns-clause-tree : goal.returns-clause-tree
returns-clause-tree c =
    let k = c.args.start.now in
    let l = c.in_ok-here.here in
    let Q : Store → Type 0 = λ s. IsTree k s.here 0 s.reached in
    subst Q (sym c.in_ok-new.ensures.ok)
    (subst (IsTree k l 0) (sym c.in_ok-reached.ensures) (begins_with k c.none.result c.requires (c.none.ensures ∙ sym (nothing_new k c.requires)) l c.in_ok-here.ensures))
