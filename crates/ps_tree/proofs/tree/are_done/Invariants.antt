use Rattle.std.proofs.Common.{◌≡◌, drop}
use Rattle.std.specs.List.{list_all}
use Rattle.ps_action.specs.Trees.{is_success, state_at, wait_status}
use Rattle.ps_tree.proofs.tree.are_done.Given as goal

-- the acts so far are done
abbrev pub invariant-loop-wait : goal.invariant-loop-wait
invariant-loop-wait l =
    list_all (λ i. is_success (wait_status (state_at l.states i))) (drop l.wait-index l.waits) ≡ list_all (λ i. is_success (wait_status (state_at l.states i))) l.waits
