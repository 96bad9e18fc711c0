use Rattle.std.proofs.Common.{◌≡◌, drop}
use Rattle.ps_entries.specs.Events.{acts_at, acts_from}
use Rattle.ps_entries.proofs.acts.acts_at.Given as goal

-- the acts are those that the words that are left tell after those that stand
abbrev pub invariant-loop-i : goal.invariant-loop-i
invariant-loop-i l = record {
  acts : acts_at l.words l.names l.at ≡ acts_from l.acts.items l.since.items (drop l.i l.words) (drop l.i l.names);
}
