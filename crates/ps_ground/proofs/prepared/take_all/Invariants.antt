use Rattle.std.proofs.Common.{◌≡◌, ◌&&◌, drop, map}
use Rattle.ps_world.specs.CondViews.{cond_tree}
use Rattle.ps_world.specs.declared.domains.Domain.{Domain}
use Rattle.ps_world.specs.declared.known.Knowledge.{Knowledge}
use Rattle.ps_action.specs.Grounding.{put_cond}
use Rattle.ps_action.specs.Truth.{all_true}
use Rattle.ps_ground.specs.States.{State, at}
use Rattle.ps_ground.specs.Prepared.{passes}
use Rattle.ps_ground.proofs.prepared.take_all.Given as goal

-- what was taken in, with the conditions that are left, holds where all do
abbrev pub invariant-loop-cond : goal.invariant-loop-cond
invariant-loop-cond l =
    (d : Domain) (k : Knowledge) (s : State) → (passes d k l.atoms l.test s && all_true d (at k s) (map (put_cond l.args) (map cond_tree (drop l.cond-index l.cond-items)))) ≡ (passes d k l.atoms l.initial.test s && all_true d (at k s) (map (put_cond l.args) l.conds))
