use Rattle.std.proofs.Common.{true, false, List, [], ◌∷◌, ◌++◌, ap, sym, ◌∙◌}
use Rattle.std.proofs.lemmas.List.{append-nil}
use Rattle.ps_action.specs.ArcTables.{has_pair}
use Rattle.ps_arcs.proofs.Ranges.{filter-range_more}
use Rattle.ps_tree.proofs.waits.Waits.of.Goals as goal
use Rattle.ps_tree.proofs.waits.Waits.of.Goals.{then-has+in_ok-push, else-has}

pub loop-other-preserved : goal.loop-other-preserved
loop-other-preserved c =
    let other = c.loop-other.other in
    let more = filter-range_more (λ i. has_pair i c.args.act c.args.arcs.now.pairs) other in
    elim c.if-has.branch [
      | then-has+in_ok-push w ↦
          ap (λ (v : _). v.items) w.acts-is ∙ w.in_ok-push.ensures.items ∙ ap (λ (l : List _). l ++ other ∷ []) c.loop-other.invariant
          ∙ sym (more true (sym c.has.ensures ∙ w.if-has.true))
      | else-has w ↦
          ap (λ (v : _). v.items) w.acts-is ∙ c.loop-other.invariant ∙ sym (more false (sym c.has.ensures ∙ w.if-has.false) ∙ append-nil _)
    ]
