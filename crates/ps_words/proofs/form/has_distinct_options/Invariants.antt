use Rattle.std.proofs.Common.{◌≡◌, drop}
use Rattle.ps_words.specs.Words.{has_distinct_options, word_texts}
use Rattle.ps_words.proofs.form.has_distinct_options.Given as goal

abbrev pub invariant-loop-i : goal.invariant-loop-i
invariant-loop-i l = has_distinct_options (word_texts (drop l.i l.words)) ≡ has_distinct_options (word_texts l.fn.words)
