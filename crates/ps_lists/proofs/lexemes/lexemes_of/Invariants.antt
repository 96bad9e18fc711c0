use Rattle.std.proofs.Common.{◌+◌, ◌≤◌, vec_capacity, vec_len}
use Rattle.ps_lists.proofs.LexemeSteps.{AreLexemes}
use Rattle.ps_lists.proofs.lexemes.lexemes_of.Given as goal

-- the words are those that stand, and those of the tokens that are left, for which there is room
abbrev pub invariant-loop-token : goal.invariant-loop-token
invariant-loop-token l = record {
  lexemes : AreLexemes l.bytes l.fn.tokens.items l.fn.names l.tokens.items l.names l.lexemes.items;
  room : vec_len l.lexemes + vec_len l.tokens ≤ vec_capacity l.lexemes;
}

abbrev pub decreases-loop-token : goal.decreases-loop-token
decreases-loop-token l = vec_len l.tokens
