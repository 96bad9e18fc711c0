use Rattle.std.proofs.Common.{arith, not, ap, sym, ◌∙◌, true, false}
use Rattle.std.proofs.lemmas.Grind.{common_steps}
use Rattle.std.specs.List.{list_any}
use Rattle.ps_action.specs.Effects.{deletes}
use Rattle.ps_plain.proofs.Kept.{filter-drop}
use Rattle.ps_plain.proofs.effect_lists.facts_kept.Goals as goal
use Rattle.ps_plain.proofs.effect_lists.facts_kept.Goals.{then-not-is_deleted+in_ok-push, else-not-is_deleted}

pub loop-there-preserved : goal.loop-there-preserved
loop-there-preserved c =
    let one = filter-drop (λ f. not (list_any (deletes f) c.args.effects.now)) c.args.facts.now c.loop-there.there-index c.there-item.result in
    elim c.if-not-is_deleted.branch [
      | then-not-is_deleted+in_ok-push w ↦ let e = one true (omega arith) c.there-item.is (ap not (sym c.is_deleted.ensures ∙ w.if-not-is_deleted.true)) in grind (arith, common_steps)
      | else-not-is_deleted w ↦ let e = one false (omega arith) c.there-item.is (ap not (sym c.is_deleted.ensures ∙ w.if-not-is_deleted.false)) in grind (arith, common_steps)
    ]
