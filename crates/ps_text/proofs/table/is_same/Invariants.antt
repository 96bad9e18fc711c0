use Rattle.std.proofs.Common.{◌≡◌, drop, length}
use Rattle.ps_world.specs.Lines.{same_text}
use Rattle.ps_text.proofs.table.is_same.Given as goal

abbrev pub invariant-loop-b : goal.invariant-loop-b
invariant-loop-b l = same_text (drop (length l.yielded) l.text) (drop (length l.yielded) l.other) ≡ same_text l.text l.other
