use Rattle.std.proofs.Common.{take}
use Rattle.ps_marks.specs.Rules.{AreRules}
use Rattle.ps_marks.proofs.rules.rules_of.Given as goal

abbrev pub invariant-loop-action : goal.invariant-loop-action
invariant-loop-action l = AreRules l.expert l.problem l.places (take l.action-index l.actions) l.rules.items
