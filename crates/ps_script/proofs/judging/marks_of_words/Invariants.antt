use Rattle.std.proofs.Common.{◌≡◌, ◌++◌, drop}
use Rattle.ps_lists.specs.Lexemes.{marks}
use Rattle.ps_script.proofs.judging.marks_of_words.Given as goal

-- the marks that stand and those of the words that are left are all of them
abbrev pub invariant-loop-word : goal.invariant-loop-word
invariant-loop-word l = l.marks.items ++ marks (drop l.word-index l.words) ≡ marks l.words
