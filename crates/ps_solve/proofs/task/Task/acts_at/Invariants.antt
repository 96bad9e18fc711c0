use Rattle.std.proofs.Common.{◌≡◌, ◌++◌, drop}
use Rattle.ps_solve.specs.Queue.{acts_at}
use Rattle.ps_solve.proofs.task.Task.acts_at.Given as goal

-- the acts so far, with those at the places that are left, are all
abbrev pub invariant-loop-place : goal.invariant-loop-place
invariant-loop-place l = l.acts ++ acts_at l.self.grounds.actions.items (drop l.place-index l.places) ≡ acts_at l.self.grounds.actions.items l.places
