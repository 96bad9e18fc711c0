use Rattle.std.proofs.Common.{◌≡◌, ◌≤◌, ◌++◌, drop, length, map}
use Rattle.ps_script.proofs.fact_lines.args_said.Given as goal

-- the names that stand and those of the words that are left are all of them
abbrev pub invariant-loop-word : goal.invariant-loop-word
invariant-loop-word l = record {
  count : length l.args ≡ l.word-index;
  few : length l.word-items ≤ 6;
  whole : l.args ++ map (λ w. w.name) (drop l.word-index l.word-items) ≡ map (λ w. w.name) l.word-items;
}
