use Rattle.std.proofs.Common.{◌≡◌, not, filter, length}
use Rattle.std.specs.Map.{keys_of}
use Rattle.ps_world.specs.Knowledge.{is_among}
use Rattle.ps_problem.specs.Namings.{AreNamed}
use Rattle.ps_problem.proofs.problem.values.leave_out_named.Given as goal

abbrev pub invariant-loop-fact : goal.invariant-loop-fact
invariant-loop-fact l =
    record {
      left : filter (λ v. not (is_among l.name v.0.args)) l.all.entries ≡ filter (λ v. not (is_among l.name v.0.args)) l.fn.all.entries;
      named : AreNamed (keys_of l.all.entries) l.namings.keys;
    }

abbrev pub decreases-loop-fact : goal.decreases-loop-fact
decreases-loop-fact l = length l.namings.keys
