use Rattle.std.proofs.Common.{◌≡◌, ◌++◌, false, drop}
use Rattle.ps_members.specs.Parts.{without_open}
use Rattle.ps_members.proofs.parts.without_open.Given as goal

-- the text that stands and that of the bytes that are left are all of it
abbrev pub invariant-loop-i : goal.invariant-loop-i
invariant-loop-i l = l.text.items ++ without_open l.joined (drop l.i l.bytes) ≡ without_open false l.bytes
