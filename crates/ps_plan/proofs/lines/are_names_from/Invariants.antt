use Rattle.std.proofs.Common.{◌≡◌}
use Rattle.std.specs.List.{list_all}
use Rattle.ps_text.specs.Names.{is_name}
use Rattle.ps_plan.specs.PlanText.{names_from}
use Rattle.ps_plan.proofs.lines.are_names_from.Given as goal

abbrev pub invariant-loop-i : goal.invariant-loop-i
invariant-loop-i l = list_all is_name (names_from l.parts l.from) ≡ list_all is_name (names_from l.parts l.i)
