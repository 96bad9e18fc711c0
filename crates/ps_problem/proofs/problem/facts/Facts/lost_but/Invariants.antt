use Rattle.std.proofs.Common.{◌≡◌, ◌&&◌, not, take, filter}
use Rattle.std.specs.List.{list_any}
use Rattle.ps_world.specs.Knowledge.{same_fact}
use Rattle.ps_problem.proofs.problem.facts.Facts.lost_but.Given as goal

abbrev pub invariant-loop-fact : goal.invariant-loop-fact
invariant-loop-fact l =
    l.lost.items ≡ filter (λ f. list_any (same_fact f) l.self && not (list_any (same_fact f) l.come)) (take l.fact-index l.deletes)
