use Rattle.std.proofs.Common.{◌≡◌, drop, fold}
use Rattle.ps_solve.specs.Flags.{with_word}
use Rattle.ps_solve.proofs.flags.key_of.Given as goal

abbrev pub invariant-loop-word : goal.invariant-loop-word
invariant-loop-word l = fold with_word l.key (drop l.word-index l.words) ≡ fold with_word 0 l.words
