use Rattle.std.proofs.Common.{◌≡◌, ◌++◌, drop}
use Rattle.ps_text.specs.Names.{Keeps}
use Rattle.ps_members.specs.Args.{places_of}
use Rattle.ps_members.proofs.args.places_of.Given as goal

-- the places are those that stand, and those of the words that are left
abbrev pub invariant-loop-i : goal.invariant-loop-i
invariant-loop-i l = record {
  places : (places_of l.fn.names (drop 1 l.words)).0 ≡ l.places ++ (places_of l.names (drop l.i l.words)).0;
  table : (places_of l.fn.names (drop 1 l.words)).1 ≡ (places_of l.names (drop l.i l.words)).1;
  kept : Keeps l.fn.names l.names;
}
