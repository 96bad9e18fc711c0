use Rattle.std.proofs.Common.{◌≡◌, None, not, filter, map, option_to_list, sym, ◌∙◌}
use Rattle.std.specs.List.{list_any}
use Rattle.ps_action.specs.Effects.{deletes}
use Rattle.ps_action.specs.Grounding.{put_effect}
use Rattle.ps_ground.specs.Prepared.{plain_of}
use Rattle.ps_ground.proofs.Removed.{filter_all}
use Rattle.ps_ground.proofs.prepared.deleted_alone.Goals as goal

pub returns-in-None : goal.returns-in-None
returns-in-None c =
    let none : None ≡ plain_of c.args.spread.now = rw c.in-None.is at c.plain_of.ensures in
    λ fs a. sym (filter_all fs) ∙ (λ i. filter (λ f. not (list_any (deletes f) (map (put_effect c.args.args.now) (option_to_list (none i))))) fs)
