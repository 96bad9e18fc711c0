use Rattle.std.proofs.Common.{◌≡◌, drop}
use Rattle.ps_inputs.specs.Members.{has_member}
use Rattle.ps_inputs.proofs.crowds.has_member.Given as goal

abbrev pub invariant-loop-member : goal.invariant-loop-member
invariant-loop-member l = has_member l.name (drop l.member-index l.members) ≡ has_member l.name l.fn.members
