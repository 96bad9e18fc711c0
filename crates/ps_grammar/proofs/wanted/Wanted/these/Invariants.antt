use Rattle.std.proofs.Common.{◌≡◌, ◌+◌, ◌*◌, ◌≤◌, drop}
use Rattle.ps_grammar.specs.Symbols.{level}
use Rattle.ps_grammar.proofs.wanted.Wanted.these.Given as goal

abbrev pub invariant-loop-at : goal.invariant-loop-at
invariant-loop-at l = record { rest : l.wanted ≡ drop l.at l.symbols; low : level l.wanted + 2 * l.at ≤ 16 }
