use Rattle.std.proofs.Common.{◌≡◌, map, take}
use Rattle.ps_undo.proofs.saving.parts_of.Given as goal

abbrev pub invariant-loop-part : goal.invariant-loop-part
invariant-loop-part g l = l.parts.items ≡ map (λ line. line.1) (take l.part-index l.lines)
