use Rattle.std.proofs.Common.{take}
use Rattle.ps_closing.specs.Users.{Enters}
use Rattle.ps_closing.proofs.users.add_users.Given as goal

-- the rule is among the users of the places so far
abbrev pub invariant-loop-place : goal.invariant-loop-place
invariant-loop-place l = Enters (take l.place-index l.places) l.rule l.initial.users l.users
