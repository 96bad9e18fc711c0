use Rattle.std.proofs.Common.{◌≡◌, drop}
use Rattle.std.specs.List.{list_any}
use Rattle.ps_pool.specs.Workers.{is_observer}
use Rattle.ps_pool.proofs.outline.has_observer.Given as goal

-- none so far is one
abbrev pub invariant-loop-member : goal.invariant-loop-member
invariant-loop-member l = list_any is_observer (drop l.member-index l.members) ≡ list_any is_observer l.members
