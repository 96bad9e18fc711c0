use Rattle.std.proofs.Common.{◌≡◌, ◌-◌, ◌≤◌, length, take}
use Rattle.ps_text.proofs.Pieces.{Marked}
use Rattle.ps_plan.specs.PlanText.{parts_of}
use Rattle.ps_plan.proofs.parts.Parts.of.Given as goal

abbrev pub invariant-loop-from : goal.invariant-loop-from
invariant-loop-from l = record {
  room : length l.spans ≡ 14;
  few : l.count ≤ 14;
  marked : Marked parts_of l.line (take l.count l.spans) l.from;
}

abbrev pub decreases-loop-from : goal.decreases-loop-from
decreases-loop-from l = length l.line - l.from
