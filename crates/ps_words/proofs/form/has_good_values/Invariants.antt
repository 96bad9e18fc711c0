use Rattle.std.proofs.Common.{◌≡◌, drop}
use Rattle.ps_words.specs.Words.{has_good_values, word_texts}
use Rattle.ps_words.proofs.form.has_good_values.Given as goal

abbrev pub invariant-loop-word : goal.invariant-loop-word
invariant-loop-word l = has_good_values (word_texts (drop l.word-index l.words)) ≡ has_good_values (word_texts l.fn.words)
