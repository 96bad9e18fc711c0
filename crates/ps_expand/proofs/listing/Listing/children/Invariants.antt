use Rattle.std.proofs.Common.{◌≡◌, ◌++◌, drop, filter_map, map}
use Rattle.ps_expand.specs.Children.{child_of, success}
use Rattle.ps_expand.proofs.listing.Listing.children.Given as goal

-- the children so far, with those of the ground actions that are left, are all
abbrev pub invariant-loop-action : goal.invariant-loop-action
invariant-loop-action l =
    map (child_of l.problem) l.children.items ++ filter_map (success l.self.expert.now l.problem) (drop l.action-index l.action-items)
    ≡ filter_map (success l.self.expert.now l.problem) l.self.actions.items
