use Rattle.std.proofs.Common.{◌≡◌, [], take}
use Rattle.ps_marks.specs.Landmarks.{each_once}
use Rattle.ps_marks.specs.Rules.{IsIndexed}
use Rattle.ps_marks.proofs.places.Places.of.Given as goal

-- the facts so far have places
abbrev pub invariant-loop-fact : goal.invariant-loop-fact
invariant-loop-fact l = record {
  indexed : IsIndexed l.facts.items l.places.entries;
  once : l.facts.items ≡ each_once [] (take l.fact-index l.list);
}
