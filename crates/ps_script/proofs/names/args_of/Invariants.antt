use Rattle.std.proofs.Common.{◌≡◌, length, map, take}
use Rattle.ps_lists.specs.NestedViews.{nested}
use Rattle.ps_lists.specs.Places.{word_of}
use Rattle.ps_script.proofs.names.args_of.Given as goal

-- the names that are filled are those of the words that were passed
abbrev pub invariant-loop-i : goal.invariant-loop-i
invariant-loop-i l = record {
  six : length l.names ≡ 6;
  filled : take l.i l.names ≡ map (λ t. (word_of (nested t)).name) (take l.i l.trees);
}
