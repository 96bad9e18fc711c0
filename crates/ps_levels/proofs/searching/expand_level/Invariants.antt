use Rattle.std.proofs.Common.{◌≡◌, ◌≤◌, ◌++◌, option_map, drop, flat_map, length, take}
use Rattle.ps_levels.specs.Levels.{NoneGood, first_good, fresh}
use Rattle.ps_levels.proofs.searching.expand_level.Given as goal

-- what is kept, with what the nodes that are left lead to, is what is kept at the end; and none so far is looked for
abbrev pub invariant-loop-place : goal.invariant-loop-place
invariant-loop-place g l =
    let p = g.F.Frontier.space l.initial.frontier in
    let old = g.F.Frontier.nodes l.initial.frontier in
    let nodes = g.F.Frontier.nodes l.frontier in
    record {
      space : g.F.Frontier.space l.frontier ≡ p;
      held : g.F.Frontier.held l.frontier ≡ g.F.Frontier.held l.initial.frontier;
      expanded : g.F.Frontier.expanded l.frontier ≡ l._place;
      same : take l.to nodes ≡ old;
      short : length nodes ≤ l.most;
      none : NoneGood p nodes;
      sound : g.F.Frontier.sound l.frontier l.most;
      found : option_map g.F.Frontier.path (first_good p (flat_map p.moves (drop l.from old))) ≡ option_map g.F.Frontier.path (first_good p (flat_map p.moves (drop l._place old)));
      kept : take l.most (nodes ++ fresh p nodes (flat_map p.moves (drop l._place old))) ≡ take l.most (old ++ fresh p old (flat_map p.moves (drop l.from old)));
    }
