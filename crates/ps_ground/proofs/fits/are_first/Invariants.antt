use Rattle.std.proofs.Common.{◌≡◌, Some, find, take}
use Rattle.std.specs.List.{AllByRecursion}
use Rattle.ps_world.specs.Names.{same_name}
use Rattle.ps_ground.proofs.fits.are_first.Given as goal

-- the actions so far are found by their names
abbrev pub invariant-loop-i : goal.invariant-loop-i
invariant-loop-i l = AllByRecursion (λ a. find (λ b. same_name a.name b.name) l.actions ≡ Some a) (take l.i l.actions)
