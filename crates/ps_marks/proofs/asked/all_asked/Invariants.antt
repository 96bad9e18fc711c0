use Rattle.std.proofs.Common.{◌≡◌, flat_map, take}
use Rattle.ps_marks.specs.Rules.{asked}
use Rattle.ps_marks.proofs.asked.all_asked.Given as goal

abbrev pub invariant-loop-action : goal.invariant-loop-action
invariant-loop-action l = l.facts.items ≡ flat_map asked (take l.action-index l.actions)
