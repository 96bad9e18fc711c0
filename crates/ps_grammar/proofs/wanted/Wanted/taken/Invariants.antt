use Rattle.std.proofs.Common.{◌+◌, ◌≤◌}
use Rattle.ps_grammar.specs.Symbols.{level}
use Rattle.ps_grammar.proofs.FirstFaults.{Reached}
use Rattle.ps_grammar.proofs.wanted.Wanted.taken.Given as goal

abbrev pub invariant-loop-at : goal.invariant-loop-at
invariant-loop-at l = record { reached : Reached l.initial.self l.marks l.at l.self; low : level l.self ≤ l.at + 16 }
