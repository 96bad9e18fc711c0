use Rattle.std.proofs.Common.{◌∷◌, drop, length, map}
use Rattle.std.specs.List.{flat_map}
use Rattle.ps_action.specs.Grounding.{picks}
use Rattle.ps_ground.specs.Thinned.{GoesOn, IsUselessFrom}
use Rattle.ps_ground.proofs.acts.Listing.+lists.Given as goal

abbrev pub decreases-lists : goal.decreases-lists
decreases-lists l = length l.choices.now

-- the lists that begin with the names that are left are still to come
abbrev pub invariant-loop-name : goal.invariant-loop-name
invariant-loop-name l =
    GoesOn (IsUselessFrom l.self.expert.now l.self.fixed.now.heads.keys l.self.fixed.now.facts l.self.action (length l.before)) (flat_map (λ n. map (λ args. n ∷ args) l.tails.items) (drop l.name-index l.name-items)) (picks l.choices) l.kept.items
