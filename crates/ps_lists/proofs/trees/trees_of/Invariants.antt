use Rattle.std.proofs.Common.{◌+◌, ◌≤◌, vec_capacity, vec_len}
use Rattle.ps_lists.proofs.LayerSteps.{IsNesting}
use Rattle.ps_lists.proofs.trees.trees_of.Given as goal

-- there is room for the words that are left
abbrev pub invariant-loop-word : goal.invariant-loop-word
invariant-loop-word l = record {
  nesting : IsNesting l.fn.words.items l.words.items l.trees.items l.starts.items;
  room : vec_len l.trees + vec_len l.words ≤ vec_capacity l.trees;
}

abbrev pub decreases-loop-word : goal.decreases-loop-word
decreases-loop-word l = vec_len l.words
