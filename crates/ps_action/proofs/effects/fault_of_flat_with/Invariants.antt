use Rattle.std.proofs.Common.{◌≡◌, drop, take}
use Rattle.ps_action.specs.Effects.{clash_from, faults_from, fault_of_flat}
use Rattle.ps_action.proofs.effects.fault_of_flat_with.Given as goal

-- the first clash and the first fault are among those that are left
abbrev pub invariant-loop-at : goal.invariant-loop-at
invariant-loop-at g l = record {
  clash : l.clash ≡ clash_from (take l.at l.effects) (drop l.at l.effects);
  fault : faults_from (g.K.Known.known l.known) (take l.at l.effects) (drop l.at l.effects) ≡ fault_of_flat (g.K.Known.known l.known) l.effects;
}
