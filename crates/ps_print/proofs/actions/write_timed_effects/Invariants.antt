use Rattle.std.proofs.Common.{◌≡◌, ◌++◌, codes, map, drop}
use Rattle.std.specs.List.{flat_map}
use Rattle.ps_world.specs.DomainTexts.{spread_text}
use Rattle.ps_print.proofs.actions.write_timed_effects.Given as goal

abbrev pub invariant-loop-effect : goal.invariant-loop-effect
invariant-loop-effect l =
    l.text ++ flat_map (λ effect. l.opening ++ (effect ++ codes ")")) (map (spread_text l.names l.params) (drop l.effect-index l.effects)) ≡ l.initial.text ++ flat_map (λ effect. l.opening ++ (effect ++ codes ")")) (map (spread_text l.names l.params) l.effects)
