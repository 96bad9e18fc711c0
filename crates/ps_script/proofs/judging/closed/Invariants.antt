use Rattle.std.proofs.Common.{◌≡◌, ◌++◌, replicate}
use Rattle.ps_script.specs.Judged.{shut}
use Rattle.ps_script.proofs.judging.closed.Given as goal

-- the words stand there, and as many parentheses as were counted
abbrev pub invariant-loop : goal.invariant-loop
invariant-loop l = l.all.items ≡ l.words ++ replicate l.counter shut
