use Rattle.std.proofs.Common.{◌≡◌, ◌≤◌, ◌++◌, drop, flat_map, length}
use Rattle.ps_ground.specs.Fitting.{AreFit, grounds_of}
use Rattle.ps_ground.specs.Moves.{Node, moves}
use Rattle.ps_ground.specs.Atoms.{AreAtoms, adds}
use Rattle.ps_ground.proofs.useful.useful_of.Given as goal

-- the moves by the useful acts so far, with those by the acts that are left, are those by all, what they add is added by one of all, and they fit
abbrev pub invariant-loop-act : goal.invariant-loop-act
invariant-loop-act l = record {
  moves : (n : Node)
      → moves l.expert l.problem (grounds_of l.expert l.problem l.useful.items) n ++ moves l.expert l.problem (grounds_of l.expert l.problem (drop l.act-index l.acts)) n
      ≡ moves l.expert l.problem (grounds_of l.expert l.problem l.acts) n;
  adds : AreAtoms (flat_map (adds l.expert l.problem) (grounds_of l.expert l.problem l.acts)) (flat_map (adds l.expert l.problem) (grounds_of l.expert l.problem l.useful.items));
  count : length l.useful.items ≤ l.act-index;
  fit : AreFit l.expert l.problem l.useful.items;
}
