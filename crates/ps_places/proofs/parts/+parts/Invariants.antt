use Rattle.std.proofs.Common.{◌≡◌, ◌+◌, ◌*◌, map, drop}
use Rattle.ps_world.specs.CondViews.{cond_tree}
use Rattle.ps_world.specs.Trees.{cond_rank, conds_rank}
use Rattle.ps_places.specs.Parts.{first_false_of}
use Rattle.ps_places.proofs.parts.+parts.Given as goal

-- a condition stands below the list that it is in
abbrev pub decreases-first_false : goal.decreases-first_false
decreases-first_false g l = 10 * cond_rank (cond_tree l.cond.now)

abbrev pub decreases-first_false_of : goal.decreases-first_false_of
decreases-first_false_of g l = 10 * conds_rank l.conds.now + 1

-- what is left decides
abbrev pub invariant-first_false_of-loop-cond : goal.invariant-first_false_of-loop-cond
invariant-first_false_of-loop-cond g l =
    first_false_of (g.T.Types.types l.types) (g.K.Known.known l.known) (map cond_tree (drop l.cond-index l.cond-items))
    ≡ first_false_of (g.T.Types.types l.types) (g.K.Known.known l.known) l.conds
