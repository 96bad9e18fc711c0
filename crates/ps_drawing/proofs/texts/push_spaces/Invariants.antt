use Rattle.std.proofs.Common.{◌≡◌, ◌-◌, ◌≤◌, ◌++◌}
use Rattle.std.specs.Prelude.{replicate}
use Rattle.ps_drawing.proofs.texts.push_spaces.Given as goal

-- the spaces so far, and those left, are all
abbrev pub invariant-loop-at : goal.invariant-loop-at
invariant-loop-at l = record {
  within : l.at ≤ l.count;
  spaces : l.out.items ++ replicate (l.count - l.at) 32 ≡ l.initial.out.items ++ replicate l.count 32;
}
