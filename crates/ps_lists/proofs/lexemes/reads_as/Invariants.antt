use Rattle.std.proofs.Common.{◌≡◌, drop}
use Rattle.ps_text.specs.Words.{reads_as}
use Rattle.ps_lists.proofs.lexemes.reads_as.Given as goal

-- the texts are alike if what is left of them is
abbrev pub invariant-loop-i : goal.invariant-loop-i
invariant-loop-i l = reads_as (drop l.i l.word) (drop l.i l.fixed) ≡ reads_as l.word l.fixed
