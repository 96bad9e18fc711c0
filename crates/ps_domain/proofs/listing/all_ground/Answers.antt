use Rattle.std.proofs.Common.{◌≡◌, List, ◌++◌, get_or, ap, ◌∙◌}
use Rattle.ps_world.specs.declared.names.Name.{Name}
use Rattle.ps_world.specs.declared.actions.ActionDef.{ActionDef}
use Rattle.ps_action.specs.Grounding.{all_of_action, all_ground}
use Rattle.ps_domain.specs.Listing.{all_with}
use Rattle.ps_domain.proofs.Listed.{pieces_more}
use Rattle.ps_domain.proofs.listing.all_ground.Goals as goal

pub loop-action-preserved : goal.loop-action-preserved
loop-action-preserved c =
    let d = c.args.expert.now in
    let actions = c.as_slice-action-items.result.now in
    let i = c.loop-action.action-index in
    let action = c.action-item.result in
    let done = c.loop-action.all.items in
    let listed : c.push_all_of.new.all.items ≡ done ++ all_of_action d c.args.instances.now (get_or actions i action) =
    c.in_ok-push_all_of.ensures
    ∙ (ap (λ (a : ActionDef). done ++ all_with d c.in_ok-sorted.sorted.entries a) c.action-item.is
    ∙ ap (λ (es : List (Name × Name)). done ++ all_with d es (get_or actions i action)) c.in_ok-sorted.ensures) in
    pieces_more (all_of_action d c.args.instances.now) actions i action done c.push_all_of.new.all.items (all_ground d c.args.instances.now) c.loop-action-test.true listed c.loop-action.invariant
