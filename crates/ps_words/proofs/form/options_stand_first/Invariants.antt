use Rattle.std.proofs.Common.{◌≡◌, false, drop}
use Rattle.ps_words.specs.Words.{options_stand_first, word_texts}
use Rattle.ps_words.proofs.form.options_stand_first.Given as goal

abbrev pub invariant-loop-i : goal.invariant-loop-i
invariant-loop-i l = options_stand_first l.awaited (word_texts (drop l.i l.words)) ≡ options_stand_first false (word_texts l.fn.words)
