use Rattle.std.proofs.Common.{take}
use Rattle.ps_replay.specs.Judge.{Reaches}
use Rattle.call_tests.proofs.judging.judge_all.Given as goal

abbrev pub invariant-loop-at : goal.invariant-loop-at
invariant-loop-at l = Reaches l.input (take l.at l.entries) l.judge
