use Rattle.std.proofs.Common.{◌≡◌, ◌++◌, take}
use Rattle.ps_tree.specs.Parts.{wait_lines}
use Rattle.ps_tree.proofs.text.push_waits.Given as goal

abbrev pub invariant-loop-wait : goal.invariant-loop-wait
invariant-loop-wait l = l.text.items ≡ l.initial.text.items ++ wait_lines l.states (take l.wait-index l.waits)
