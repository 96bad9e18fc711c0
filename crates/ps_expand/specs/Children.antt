-- What the steps from what is known lead to.
use Rattle.std.specs.Prelude.{◌≡◌, Option, option_map, List, filter_map, map}
use Rattle.std.specs.Result.{result_ok}
use Rattle.ps_world.specs.declared.domains.Domain.{Domain}
use Rattle.ps_world.specs.declared.known.Knowledge.{Knowledge}
use Rattle.ps_action.specs.Plans.{step_of}
use Rattle.ps_action.specs.declared.acts.Act.{Act}
use Rattle.ps_action.specs.declared.acts.GroundAction.{GroundAction}
use Rattle.ps_problem.specs.Patches.{changed}
use Rattle.ps_ground.specs.Moves.{grounds}
use Rattle.ps_expand.specs.declared.expanding.Child.{Child}

-- the act of a ground action and what is known after its step, if the step succeeds
abbrev pub success : Domain → Knowledge → GroundAction → Option (Act × Knowledge)
success d k g = option_map (λ l. (g.act, l)) (result_ok (step_of d k 0 g))

-- those of all acts, in their order
abbrev pub successes : Domain → Knowledge → List (Act × Knowledge)
successes d k = filter_map (success d k) (grounds d k)

-- the act of a child, and what is known after its change
abbrev pub child_of : Knowledge → Child → Act × Knowledge
child_of k c = (c.act, changed k c.change)

-- these are the children of what is known: one for each act whose step succeeds, and each leads to what the step leads to
abbrev pub AreChildren : Domain → Knowledge → List Child → Type 0
AreChildren d k cs = map (child_of k) cs ≡ successes d k
