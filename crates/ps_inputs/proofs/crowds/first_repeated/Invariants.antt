use Rattle.std.proofs.Common.{◌≡◌}
use Rattle.ps_inputs.specs.Members.{first_repeated}
use Rattle.ps_inputs.proofs.Together.{repeated_from}
use Rattle.ps_inputs.proofs.crowds.first_repeated.Given as goal

-- what is said of the members from here on is said of all
abbrev pub invariant-loop-i : goal.invariant-loop-i
invariant-loop-i l = repeated_from l.members l.i ≡ first_repeated l.fn.members
