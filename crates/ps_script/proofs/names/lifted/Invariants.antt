use Rattle.std.proofs.Common.{◌≡◌, length, map, take}
use Rattle.ps_lists.specs.NestedViews.{nested}
use Rattle.ps_lists.specs.Places.{word_of}
use Rattle.ps_script.specs.Goals.{term}
use Rattle.ps_script.proofs.names.lifted.Given as goal

-- the terms that are filled are those of the words that were passed
abbrev pub invariant-loop-i : goal.invariant-loop-i
invariant-loop-i l = record {
  six : length l.terms ≡ 6;
  filled : take l.i l.terms ≡ map (λ t. term l.fn.params (word_of (nested t))) (take l.i l.trees);
}
