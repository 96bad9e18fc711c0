use Rattle.std.proofs.Common.{◌≡◌, ◌++◌, map, take}
use Rattle.ps_undo.proofs.saving.push_edits.Given as goal

abbrev pub invariant-loop-part : goal.invariant-loop-part
invariant-loop-part g l = l.edits.items ≡ l.initial.edits.items ++ map g.T.Part.set (take l.part-index l.parts)
