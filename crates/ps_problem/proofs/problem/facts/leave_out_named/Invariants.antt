use Rattle.std.proofs.Common.{◌≡◌, not, filter, length}
use Rattle.ps_world.specs.Knowledge.{is_among}
use Rattle.ps_problem.specs.Namings.{AreNamed}
use Rattle.ps_problem.proofs.problem.facts.leave_out_named.Given as goal

abbrev pub invariant-loop-fact : goal.invariant-loop-fact
invariant-loop-fact l =
    record {
      left : filter (λ f. not (is_among l.name f.args)) l.all.keys ≡ filter (λ f. not (is_among l.name f.args)) l.fn.all.keys;
      named : AreNamed l.all.keys l.namings.keys;
    }

abbrev pub decreases-loop-fact : goal.decreases-loop-fact
decreases-loop-fact l = length l.namings.keys
