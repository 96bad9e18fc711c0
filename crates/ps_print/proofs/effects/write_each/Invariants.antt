use Rattle.std.proofs.Common.{◌≡◌, ◌++◌, map, drop}
use Rattle.ps_world.specs.DomainTexts.{after_spaces, effect_text}
use Rattle.ps_print.proofs.effects.write_each.Given as goal

abbrev pub invariant-loop-effect : goal.invariant-loop-effect
invariant-loop-effect l =
    l.text ++ after_spaces (map (effect_text l.names l.params) (drop l.effect-index l.effects)) ≡ l.initial.text ++ after_spaces (map (effect_text l.names l.params) l.effects)
