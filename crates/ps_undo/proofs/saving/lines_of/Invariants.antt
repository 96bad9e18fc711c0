use Rattle.std.proofs.Common.{◌≡◌, map, take}
use Rattle.ps_world.specs.Texts.{edit_text}
use Rattle.ps_undo.proofs.saving.lines_of.Given as goal

abbrev pub invariant-loop-part : goal.invariant-loop-part
invariant-loop-part g l = l.lines.items ≡ map (λ part. (edit_text l.names (g.T.Part.set part), part)) (take l.part-index l.parts)
