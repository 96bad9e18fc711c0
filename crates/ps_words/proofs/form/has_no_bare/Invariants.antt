use Rattle.std.proofs.Common.{◌≡◌, drop}
use Rattle.ps_words.specs.Words.{has_no_bare, word_texts}
use Rattle.ps_words.proofs.form.has_no_bare.Given as goal

abbrev pub invariant-loop-word : goal.invariant-loop-word
invariant-loop-word l = has_no_bare (word_texts (drop l.word-index l.words)) ≡ has_no_bare (word_texts l.fn.words)
