use Rattle.std.proofs.Common.{List, [], get_or, ap, sym, ◌∙◌, arith}
use Rattle.std.proofs.lemmas.List.Sums.{fold_more}
use Rattle.ps_world.specs.declared.names.Name.{Name}
use Rattle.ps_action.specs.Grounding.{with_named}
use Rattle.ps_ground.proofs.acts.put_by_name.Goals as goal

pub loop-name-preserved : goal.loop-name-preserved
loop-name-preserved c =
    let none : Name × Name = (record { 0 = 0 }, record { 0 = 0 }) in
    let instances = c.args.instances.now in
    let i = c.loop-name.name-index in
    c.in_ok-insert.ensures.entries ∙ ap (λ (es : List (Name × Name)). with_named es (get_or instances i none)) c.loop-name.invariant
    ∙ sym (fold_more with_named [] instances i none (omega arith))
