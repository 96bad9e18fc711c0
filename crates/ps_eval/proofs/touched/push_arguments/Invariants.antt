use Rattle.std.proofs.Common.{◌≡◌, ◌++◌, map, take}
use Rattle.ps_action.specs.Touching.{named_by}
use Rattle.ps_eval.proofs.touched.push_arguments.Given as goal

abbrev pub invariant-loop-term : goal.invariant-loop-term
invariant-loop-term l = l.all.items ≡ l.initial.all.items ++ map named_by (take l.term-index l.term-items)
