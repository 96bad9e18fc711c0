use Rattle.std.proofs.Common.{take, All}
use Rattle.std.specs.List.{Contains}
use Rattle.ps_problem.specs.declared.problem.namings.Naming.{Naming}
use Rattle.ps_problem.specs.Namings.{IsNaming}
use Rattle.ps_problem.proofs.Namings.{AreNoted}
use Rattle.ps_problem.proofs.problem.namings.note.Given as goal

abbrev pub invariant-loop-name : goal.invariant-loop-name
invariant-loop-name l =
    record {
      noted : AreNoted l.namings.keys l.fact (take l.name-index l.name-items);
      kept : (x : Naming) → Contains l.fn.namings.keys x → Contains l.namings.keys x;
      sound : All IsNaming l.fn.namings.keys → All IsNaming l.namings.keys;
    }
