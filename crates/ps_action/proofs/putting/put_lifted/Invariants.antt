use Rattle.std.proofs.Common.{◌≡◌, length, map, take}
use Rattle.ps_action.specs.Grounding.{put_term}
use Rattle.ps_action.proofs.putting.put_lifted.Given as goal

-- the terms so far are put
abbrev pub invariant-loop-i : goal.invariant-loop-i
invariant-loop-i l = record { room : length l.put ≡ 6; written : take l.i l.put ≡ map (put_term l.env) (take l.i l.terms) }
