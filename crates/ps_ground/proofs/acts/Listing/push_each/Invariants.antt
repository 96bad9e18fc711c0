use Rattle.std.proofs.Common.{◌++◌, ◌∷◌, List, drop, length, map}
use Rattle.ps_world.specs.declared.names.Name.{Name}
use Rattle.ps_ground.specs.Thinned.{GoesOn, IsUselessFrom}
use Rattle.ps_ground.proofs.acts.Listing.push_each.Given as goal

-- where all lists go on, those that are left do
abbrev pub invariant-loop-tail : goal.invariant-loop-tail
invariant-loop-tail l =
    (left whole : List (List Name))
    → GoesOn (IsUselessFrom l.self.expert.now l.self.fixed.now.heads.keys l.self.fixed.now.facts l.self.action (length l.before)) (map (λ args. l.name ∷ args) l.tails ++ left) whole l.fn.kept.items
    → GoesOn (IsUselessFrom l.self.expert.now l.self.fixed.now.heads.keys l.self.fixed.now.facts l.self.action (length l.before)) (map (λ args. l.name ∷ args) (drop l.tail-index l.tails) ++ left) whole l.kept.items
