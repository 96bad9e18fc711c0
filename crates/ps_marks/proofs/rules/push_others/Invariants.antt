use Rattle.std.proofs.Common.{◌≡◌, ◌++◌, filter, not, take}
use Rattle.ps_marks.specs.Closures.{is_in}
use Rattle.ps_marks.specs.Making.{made_by}
use Rattle.ps_marks.proofs.rules.push_others.Given as goal

abbrev pub invariant-loop-fact : goal.invariant-loop-fact
invariant-loop-fact l = l.others.items ≡ l.fn.others.items ++ filter (λ x. not (is_in (made_by l.expert l.problem l.adds) x)) (take l.fact-index l.facts)
