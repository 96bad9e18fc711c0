use Rattle.std.proofs.Common.{◌≡◌, ◌+◌, reverse, take}
use Rattle.ps_grammar.specs.Symbols.{level}
use Rattle.ps_grammar.proofs.wanted.Wanted.levels.Given as goal

abbrev pub invariant-loop-at : goal.invariant-loop-at
invariant-loop-at l = l.levels + level (reverse (take l.at l.self-inside.items.items)) ≡ level (reverse l.self-inside.items.items)
