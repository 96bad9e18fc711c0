use Rattle.std.proofs.Common.{◌≡◌, ◌+◌, drop}
use Rattle.ps_ledger.specs.Members.{place_in}
use Rattle.ps_ledger.proofs.members.place_in.Given as goal

abbrev pub invariant-loop-place : goal.invariant-loop-place
invariant-loop-place l = place_in l.names l.name ≡ l.place + place_in (drop l.place l.names) l.name
