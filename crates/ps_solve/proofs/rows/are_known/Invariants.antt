use Rattle.std.proofs.Common.{◌≡◌, drop}
use Rattle.std.specs.List.{list_all}
use Rattle.ps_ground.specs.Prepared.{known_at}
use Rattle.ps_solve.specs.Rows.{plain_state}
use Rattle.ps_solve.proofs.rows.are_known.Given as goal

-- the atoms at the places so far are known
abbrev pub invariant-loop-place : goal.invariant-loop-place
invariant-loop-place l = list_all (known_at l.atoms (plain_state l.atoms l.row)) (drop l.place-index l.places) ≡ list_all (known_at l.atoms (plain_state l.atoms l.row)) l.places
