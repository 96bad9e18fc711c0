use Rattle.std.proofs.Common.{◌≡◌, ◌++◌, List, map, ap, sym, ◌∙◌}
use Rattle.ps_world.specs.declared.names.Name.{Name}
use Rattle.ps_world.specs.declared.domains.Param.{Param}
use Rattle.ps_domain.specs.Listing.{choices_in}
use Rattle.ps_action.specs.Grounding.{picks}
use Rattle.ps_action.specs.declared.acts.Act.{Act}
use Rattle.ps_ground.specs.Acts.{act_with, acts_with}
use Rattle.ps_ground.specs.Thinned.{IsUseless}
use Rattle.ps_ground.proofs.Thinning.{goes_same}
use Rattle.ps_ground.proofs.acts.push_all_of.Goals as goal

pub returns-clause-thinned : goal.returns-clause-thinned
returns-clause-thinned c =
    let d = c.args.expert.now in
    let a = c.args.action.now in
    let P : Act → Type 0 = IsUseless d c.args.fixed.now.heads.keys c.args.fixed.now.facts in
    let made : c.as_slice-3.result.now ≡ map (choices_in d c.args.sorted.now) a.params =
    c.as_slice-3.ensures.value ∙ c.in_ok-choices.ensures ∙ ap (λ (ps : List Param). map (choices_in d c.args.sorted.now) ps) c.as_slice.ensures in
    λ yes left whole on.
    c.in_ok-push_counted.ensures left whole
    (goes_same P whole (acts_with d c.args.sorted.now a ++ left) (map (act_with a) (picks c.as_slice-3.result.now) ++ left) c.args.all.now.items
    (ap (λ (l : List (List Name)). map (act_with a) (picks l) ++ left) (sym made)) on)
