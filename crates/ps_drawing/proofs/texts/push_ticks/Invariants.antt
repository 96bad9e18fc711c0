use Rattle.std.proofs.Common.{◌≡◌, ◌-◌, ◌≤◌, ◌++◌}
use Rattle.ps_drawing.specs.Texts.{ticks_from}
use Rattle.ps_drawing.proofs.texts.push_ticks.Given as goal

-- the ticks so far, and those left, are all
abbrev pub invariant-loop-k : goal.invariant-loop-k
invariant-loop-k l = record {
  within : l.k ≤ l.count;
  ticks : l.out.items ++ ticks_from l.span l.k (l.count - l.k) ≡ l.initial.out.items ++ ticks_from l.span 0 l.count;
}
