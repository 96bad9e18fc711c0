use Rattle.std.proofs.Common.{◌≡◌, ◌<◌, ◌≤◌, ◌++◌, option_map, drop, length, map, take}
use Rattle.ps_levels.specs.Levels.{first_good, fresh}
use Rattle.ps_expand.specs.Reached.{keys_in, path_in}
use Rattle.ps_expand.specs.Trees.{AreOf, child_node, nodes_in, path_of, tree_space}
use Rattle.ps_expand.proofs.store.Store.meet_all.Given as goal

-- the problem stands where it did; what is kept, with the children that are left, is what is kept at the end; and none so far is good
abbrev pub invariant-loop-child : goal.invariant-loop-child
invariant-loop-child g l =
    let k = l.initial.self.start.now in
    let rs = l.initial.self.reached in
    let p = tree_space (g.X.Expand.domain l.expander) k (g.X.Expand.goal l.expander) in
    let f = child_node l.initial.self.here (path_in rs l.from) in
    record {
      start : l.self.start.now ≡ k;
      here : l.self.here ≡ l.initial.self.here;
      short : length l.self.reached ≤ l.most;
      from : l.from < length l.self.reached;
      path : path_in l.self.reached l.from ≡ path_in rs l.from;
      all : AreOf k (keys_in l.self.reached);
      found : option_map path_of (first_good p (map f (drop l.child-index l.children))) ≡ option_map path_of (first_good p (map f l.children));
      kept : take l.most (nodes_in k l.self.reached ++ fresh p (nodes_in k l.self.reached) (map f (drop l.child-index l.children))) ≡ take l.most (nodes_in k rs ++ fresh p (nodes_in k rs) (map f l.children));
    }
