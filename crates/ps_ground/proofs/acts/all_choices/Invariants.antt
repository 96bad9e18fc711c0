use Rattle.std.proofs.Common.{◌≡◌, map, take}
use Rattle.ps_domain.specs.Listing.{choices_in}
use Rattle.ps_ground.proofs.acts.all_choices.Given as goal

abbrev pub invariant-loop-param : goal.invariant-loop-param
invariant-loop-param l = l.all.items ≡ map (choices_in l.expert l.sorted) (take l.param-index l.params)
