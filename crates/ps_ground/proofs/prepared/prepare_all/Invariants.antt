use Rattle.std.proofs.Common.{◌≡◌, ◌≤◌, ◌++◌, drop, length}
use Rattle.ps_ground.specs.Atoms.{IsOver}
use Rattle.ps_ground.specs.Fitting.{AreFit, grounds_of}
use Rattle.ps_ground.specs.Moves.{Node, moves}
use Rattle.ps_ground.specs.Prepared.{AreSound, successor_nodes}
use Rattle.ps_ground.proofs.prepared.prepare_all.Given as goal

-- what those that were prepared lead to, with the moves by the acts that are left, is what all lead to, each is sound, and those
-- that are left fit
abbrev pub invariant-loop-act : goal.invariant-loop-act
invariant-loop-act l = record {
  same : (n : Node) → IsOver l.atoms n.state → successor_nodes l.expert l.problem l.atoms l.all.items n ++ moves l.expert l.problem (grounds_of l.expert l.problem (drop l.act-index l.acts)) n ≡ moves l.expert l.problem (grounds_of l.expert l.problem l.acts) n;
  sound : AreSound l.expert l.problem l.atoms l.all.items;
  count : length l.all.items ≤ l.act-index;
  fit : AreFit l.expert l.problem (drop l.act-index l.acts);
}
