use Rattle.std.proofs.Common.{◌≡◌, ◌+◌, ◌≤◌, drop, filter_map, length}
use Rattle.ps_rules.specs.Members.{as_observer, as_performer}
use Rattle.ps_inputs.proofs.crowds.is_crowd.Given as goal

abbrev pub invariant-loop-member : goal.invariant-loop-member
invariant-loop-member l = record {
  performers : l.performers + length (filter_map as_performer (drop l.member-index l.members)) ≡ length (filter_map as_performer l.fn.members);
  observers : l.observers + length (filter_map as_observer (drop l.member-index l.members)) ≡ length (filter_map as_observer l.fn.members);
  performers_few : l.performers ≤ l.member-index;
  observers_few : l.observers ≤ l.member-index;
}
