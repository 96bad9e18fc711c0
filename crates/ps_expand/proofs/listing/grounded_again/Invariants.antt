use Rattle.std.proofs.Common.{◌≡◌, ◌++◌, drop, filter_map, map}
use Rattle.std.specs.Result.{result_ok}
use Rattle.ps_action.specs.Grounding.{ground_act}
use Rattle.ps_expand.proofs.listing.grounded_again.Given as goal

abbrev pub invariant-loop-action : goal.invariant-loop-action
invariant-loop-action l =
    l.actions.items ++ filter_map (λ act. result_ok (ground_act l.expert l.instances act)) (map (λ g. g.act) (drop l.action-index l.all))
    ≡ filter_map (λ act. result_ok (ground_act l.expert l.instances act)) (map (λ g. g.act) l.all)
