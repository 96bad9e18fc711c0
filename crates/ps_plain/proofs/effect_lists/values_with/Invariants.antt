use Rattle.std.proofs.Common.{◌≡◌, drop, fold}
use Rattle.ps_action.specs.Effects.{with_value}
use Rattle.ps_plain.proofs.effect_lists.values_with.Given as goal

abbrev pub invariant-loop-term : goal.invariant-loop-term
invariant-loop-term l = fold with_value l.all.items (drop l.term-index l.ready) ≡ fold with_value l.values l.ready
