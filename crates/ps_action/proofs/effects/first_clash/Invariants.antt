use Rattle.std.proofs.Common.{◌≡◌, drop, take}
use Rattle.ps_action.specs.Effects.{clash_from, first_clash}
use Rattle.ps_action.proofs.effects.first_clash.Given as goal

abbrev pub invariant-loop-at : goal.invariant-loop-at
invariant-loop-at l = clash_from (take l.at l.effects) (drop l.at l.effects) ≡ first_clash l.effects
