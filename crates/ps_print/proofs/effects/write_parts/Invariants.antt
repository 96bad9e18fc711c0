use Rattle.std.proofs.Common.{◌≡◌, ◌++◌, map, drop}
use Rattle.ps_world.specs.DomainTexts.{after_spaces, guarded_text}
use Rattle.ps_print.proofs.effects.write_parts.Given as goal

abbrev pub invariant-loop-part : goal.invariant-loop-part
invariant-loop-part l =
    l.text ++ after_spaces (map (guarded_text l.names l.params) (drop l.part-index l.parts)) ≡ l.initial.text ++ after_spaces (map (guarded_text l.names l.params) l.parts)
