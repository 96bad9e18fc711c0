use Rattle.std.proofs.Common.{◌≡◌, ◌++◌, drop, map}
use Rattle.ps_world.specs.CondViews.{cond_tree}
use Rattle.ps_action.specs.Truth.{all_true}
use Rattle.ps_ground.specs.States.{State, at}
use Rattle.ps_ground.proofs.light.lighter.Given as goal

-- the conditions so far, with those that are left, hold where all do
abbrev pub invariant-loop-cond : goal.invariant-loop-cond
invariant-loop-cond g l =
    (s : State) → all_true (g.T.Types.types l.types) (at (g.K.Known.known l.given) s) (l.light ++ map cond_tree (drop l.cond-index l.cond-items)) ≡ all_true (g.T.Types.types l.types) (at (g.K.Known.known l.given) s) l.conds
