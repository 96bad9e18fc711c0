use Rattle.std.proofs.Common.{◌≡◌, drop}
use Rattle.ps_words.specs.Words.{has_option, word_texts}
use Rattle.ps_words.proofs.form.has_option.Given as goal

abbrev pub invariant-loop-word : goal.invariant-loop-word
invariant-loop-word l = has_option (word_texts (drop l.word-index l.words)) ≡ has_option (word_texts l.fn.words)
