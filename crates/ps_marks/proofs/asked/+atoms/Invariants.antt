use Rattle.std.proofs.Common.{◌≡◌, ◌+◌, ◌*◌, ◌++◌, map, drop}
use Rattle.ps_world.specs.Trees.{cond_rank, conds_rank}
use Rattle.ps_world.specs.CondViews.{cond_tree}
use Rattle.ps_marks.specs.Atoms.{atoms_of}
use Rattle.ps_marks.proofs.asked.+atoms.Given as goal

-- a condition stands below the list that it is in
abbrev pub decreases-push_atoms : goal.decreases-push_atoms
decreases-push_atoms l = 2 * cond_rank (cond_tree l.cond.now)

abbrev pub decreases-push_all_atoms : goal.decreases-push_all_atoms
decreases-push_all_atoms l = 2 * conds_rank l.conds.now + 1

abbrev pub invariant-push_all_atoms-loop-cond : goal.invariant-push_all_atoms-loop-cond
invariant-push_all_atoms-loop-cond l = l.facts.items ++ atoms_of (map cond_tree (drop l.cond-index l.cond-items)) ≡ l.fn.facts.items ++ atoms_of l.conds
