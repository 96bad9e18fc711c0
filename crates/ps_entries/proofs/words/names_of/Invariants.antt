use Rattle.std.proofs.Common.{◌≡◌, ◌≤◌, ◌++◌, drop, length, vec_capacity, vec_len}
use Rattle.ps_text.specs.Names.{Keeps}
use Rattle.ps_entries.specs.Words.{names_of, with_words}
use Rattle.ps_entries.proofs.words.names_of.Given as goal

-- the names are those that stand, and those of the words that are left, for which there is room
abbrev pub invariant-loop-i : goal.invariant-loop-i
invariant-loop-i l = record {
  names : names_of l.fn.names l.words ≡ l.found.items ++ names_of l.names (drop l.i l.words);
  table : with_words l.fn.names l.words ≡ with_words l.names (drop l.i l.words);
  kept : Keeps l.fn.names l.names;
  count : vec_len l.found ≡ l.i;
  room : length l.words ≤ vec_capacity l.found;
}
