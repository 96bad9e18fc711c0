use Rattle.std.proofs.Common.{◌≡◌, take}
use Rattle.std.specs.List.{zip}
use Rattle.ps_shows.proofs.pictures.placed.Given as goal

abbrev pub invariant-loop-k : goal.invariant-loop-k
invariant-loop-k l = l.placed.items ≡ take l.k (zip l.fn.lines l.fn.entries)
