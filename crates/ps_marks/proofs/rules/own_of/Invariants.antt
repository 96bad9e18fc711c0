use Rattle.std.proofs.Common.{◌≡◌, filter, take}
use Rattle.ps_marks.specs.Closures.{is_in}
use Rattle.ps_marks.specs.Making.{made_by}
use Rattle.ps_marks.proofs.rules.own_of.Given as goal

abbrev pub invariant-loop-fact : goal.invariant-loop-fact
invariant-loop-fact l = l.own.items ≡ filter (is_in (made_by l.expert l.problem l.adds)) (take l.fact-index l.facts)
