use Rattle.std.proofs.Common.{◌-◌, length}
use Rattle.ps_text.proofs.TokenSteps.{Lexed}
use Rattle.ps_text.proofs.lexing.tokens.Given as goal

abbrev pub invariant-loop-tokens : goal.invariant-loop-tokens
invariant-loop-tokens l = Lexed l.bytes l.tokens.items l.from

abbrev pub decreases-loop-tokens : goal.decreases-loop-tokens
decreases-loop-tokens l = length l.bytes - l.from
