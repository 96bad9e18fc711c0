use Rattle.std.proofs.Common.{◌≡◌, drop, take}
use Rattle.ps_action.specs.Effects.{faults_from, fault_of_flat}
use Rattle.ps_action.proofs.effects.fault_of_flat.Given as goal

abbrev pub invariant-loop-at : goal.invariant-loop-at
invariant-loop-at g l =
    faults_from (g.K.Known.known l.known) (take l.at l.effects) (drop l.at l.effects) ≡ fault_of_flat (g.K.Known.known l.known) l.effects
