use Rattle.std.proofs.Common.{◌≡◌, ◌≤◌, ◌++◌, ◌∷◌, drop, flat_map, length, map, take}
use Rattle.ps_action.specs.Grounding.{picks}
use Rattle.ps_marks.specs.Candidates.{facts_from, unknown}
use Rattle.ps_marks.proofs.candidates.+push_facts.Given as goal

abbrev pub decreases-push_facts : goal.decreases-push_facts
decreases-push_facts l = length l.choices.now

-- the facts so far, with those that are still to come, as many as are enough
abbrev pub invariant-loop-name : goal.invariant-loop-name
invariant-loop-name l = record {
  first : l.first.items ≡ l.fn.first.items;
  enough : length l.facts.items ≤ 200;
  so_far :
      take 200 (l.facts.items ++ unknown l.problem (facts_from l.head l.fn.first.items (flat_map (λ n. map (λ args. n ∷ args) (picks l.rest)) (drop l.name-index l.name-items))))
      ≡ take 200 (l.fn.facts.items ++ unknown l.problem (facts_from l.head l.fn.first.items (picks l.choices)));
}
