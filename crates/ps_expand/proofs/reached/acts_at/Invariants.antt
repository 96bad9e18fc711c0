use Rattle.std.proofs.Common.{◌≡◌, ◌++◌, drop}
use Rattle.ps_expand.specs.Reached.{acts_at}
use Rattle.ps_expand.proofs.reached.acts_at.Given as goal

-- the acts so far, with those at the places that are left, are all
abbrev pub invariant-loop-place : goal.invariant-loop-place
invariant-loop-place l = l.path ++ acts_at l.acts (drop l.place-index l.places) ≡ acts_at l.acts l.places
