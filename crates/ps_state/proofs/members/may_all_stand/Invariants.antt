use Rattle.std.proofs.Common.{◌≡◌, drop}
use Rattle.std.specs.List.{list_all, zip}
use Rattle.ps_rules.specs.Members.{may_stand}
use Rattle.ps_state.proofs.members.may_all_stand.Given as goal

abbrev pub invariant-loop-at : goal.invariant-loop-at
invariant-loop-at l = list_all may_stand (zip l.pattern l.args) ≡ list_all may_stand (zip (drop l.at l.pattern) (drop l.at l.args))
