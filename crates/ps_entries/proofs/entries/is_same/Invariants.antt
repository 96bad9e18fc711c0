use Rattle.std.proofs.Common.{◌≡◌, drop, length}
use Rattle.ps_world.specs.Lines.{same_text}
use Rattle.ps_entries.proofs.entries.is_same.Given as goal

abbrev pub invariant-loop-b : goal.invariant-loop-b
invariant-loop-b l = same_text (drop (length l.yielded) l.line) (drop (length l.yielded) l.other) ≡ same_text l.line l.other
