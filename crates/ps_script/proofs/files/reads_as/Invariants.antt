use Rattle.std.proofs.Common.{◌≡◌, drop}
use Rattle.ps_text.specs.Words.{reads_as}
use Rattle.ps_script.proofs.files.reads_as.Given as goal

abbrev pub invariant-loop-i : goal.invariant-loop-i
invariant-loop-i l = reads_as (drop l.i l.word) (drop l.i l.fixed) ≡ reads_as l.word l.fixed
