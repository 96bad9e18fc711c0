use Rattle.std.proofs.Common.{◌≡◌, length}
use Rattle.std.specs.List.Sorted.{IsStrictlySortedBy}
use Rattle.std.specs.Map.{keys_of}
use Rattle.ps_world.specs.Names.{name_cmp}
use Rattle.ps_problem.specs.KindLists.{AreKinds}
use Rattle.ps_problem.proofs.problem.instances.list_kinds.Given as goal

abbrev pub invariant-loop-at : goal.invariant-loop-at
invariant-loop-at l =
    record {
      are : AreKinds l.kinds.items l.all;
      rise : IsStrictlySortedBy name_cmp (keys_of l.all);
      len : length l.kinds.items ≡ l.at;
    }
