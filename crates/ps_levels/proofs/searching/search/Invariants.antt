use Rattle.std.proofs.Common.{◌≡◌, ◌-◌}
use Rattle.ps_levels.specs.Levels.{answer_from}
use Rattle.ps_levels.proofs.Depths.{IsAt}
use Rattle.ps_levels.proofs.searching.search.Given as goal

-- none so far is looked for, and what is answered from here on is the answer
abbrev pub invariant-loop-depth : goal.invariant-loop-depth
invariant-loop-depth g l =
    let p = g.F.Frontier.space l.initial.frontier in
    record {
      space : g.F.Frontier.space l.frontier ≡ p;
      held : g.F.Frontier.held l.frontier ≡ g.F.Frontier.held l.initial.frontier;
      expanded : g.F.Frontier.expanded l.frontier ≡ l.done;
      sound : g.F.Frontier.sound l.frontier l.budget;
      here : IsAt p l.budget l.depth l.done (g.F.Frontier.nodes l.frontier);
      left : answer_from p g.F.Frontier.path l.budget (l.last - l.depth) l.depth ≡ answer_from p g.F.Frontier.path l.budget l.last 0;
    }
