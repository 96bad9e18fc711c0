use Rattle.std.proofs.Common.{◌≡◌, drop}
use Rattle.ps_picture.specs.Courses.{close_of}
use Rattle.ps_picture.proofs.courses.close_of.Given as goal

-- what the entries left say, all say
abbrev pub invariant-loop-entry : goal.invariant-loop-entry
invariant-loop-entry l = close_of l.entries ≡ close_of (drop l.entry-index l.entries)
