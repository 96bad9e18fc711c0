use Rattle.std.proofs.Common.{◌≡◌, ◌+◌, ◌++◌, length, take}
use Rattle.ps_text.specs.Names.{Keeps}
use Rattle.ps_plan.specs.PlanText.{named_all, names_from}
use Rattle.ps_plan.proofs.steps.args_of.Given as goal

-- the names are those that stand, and those of the parts that are left
abbrev pub invariant-loop-i : goal.invariant-loop-i
invariant-loop-i l = record {
  room : length l.found ≡ 6;
  names : (named_all l.fn.names (names_from l.parts 4)).0 ≡ take l.i l.found ++ (named_all l.names (names_from l.parts (4 + l.i))).0;
  kept : Keeps l.fn.names l.names;
  table : (named_all l.fn.names (names_from l.parts 4)).1 ≡ (named_all l.names (names_from l.parts (4 + l.i))).1;
}
