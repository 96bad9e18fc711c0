use Rattle.std.proofs.Common.{◌≡◌, ◌≤◌, drop}
use Rattle.ps_lists.specs.Lexemes.{marks}
use Rattle.ps_script.specs.Judged.{open_after}
use Rattle.ps_script.proofs.judging.open_after.Given as goal

-- no more are open than words are passed, and after those that are left as many are open as after all
abbrev pub invariant-loop-word : goal.invariant-loop-word
invariant-loop-word l = record {
  few : l.depth ≤ l.word-index;
  whole : open_after l.depth (marks (drop l.word-index l.words)) ≡ open_after 0 (marks l.words);
}
