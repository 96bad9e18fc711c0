use Rattle.std.proofs.Common.{◌≡◌, take}
use Rattle.ps_reports.specs.Stints.{TellsStints}
use Rattle.ps_reports.proofs.stints.Stints.of.Given as goal

abbrev pub invariant-loop-entry : goal.invariant-loop-entry
invariant-loop-entry l = (l.stints.name ≡ l.fn.name) × TellsStints (take l.entry-index l.h) l.stints
