use Rattle.std.proofs.Common.{◌≡◌, drop}
use Rattle.ps_action.specs.Trees.{sequence_status}
use Rattle.ps_tree.proofs.status.sequence_status.Given as goal

-- the waits so far are successes
abbrev pub invariant-loop-wait : goal.invariant-loop-wait
invariant-loop-wait l = sequence_status l.states (drop l.wait-index l.waits) l.act ≡ sequence_status l.states l.waits l.act
