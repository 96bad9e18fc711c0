use Rattle.std.proofs.Common.{◌≡◌, drop}
use Rattle.ps_words.specs.Words.{has_named, word_texts}
use Rattle.ps_words.proofs.form.has_named.Given as goal

abbrev pub invariant-loop-word : goal.invariant-loop-word
invariant-loop-word l = has_named l.name (word_texts (drop l.word-index l.words)) ≡ has_named l.name (word_texts l.fn.words)
