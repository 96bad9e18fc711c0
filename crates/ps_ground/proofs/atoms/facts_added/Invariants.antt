use Rattle.std.proofs.Common.{◌≡◌, ◌++◌, drop, flat_map}
use Rattle.ps_ground.specs.Fitting.{AreFit, grounds_of}
use Rattle.ps_ground.specs.Atoms.{adds}
use Rattle.ps_ground.proofs.atoms.facts_added.Given as goal

-- the facts so far, with those that the acts that are left may add, are all, and those that are left fit
abbrev pub invariant-loop-act : goal.invariant-loop-act
invariant-loop-act l = record {
  facts : l.facts.items ++ flat_map (adds l.expert l.problem) (grounds_of l.expert l.problem (drop l.act-index l.acts)) ≡ flat_map (adds l.expert l.problem) (grounds_of l.expert l.problem l.acts);
  fit : AreFit l.expert l.problem (drop l.act-index l.acts);
}
