-- Threads may share a problem: a search for that from its type alone stops at its limits, so each type within it that holds others has a
-- lemma of its own.
use denote.Param.Send.{IsSync, sendable}
use Rattle.std.proofs.Crossing.{crosses}
use Rattle.std.proofs.MapsCrossing.{crosses as maps}
use Rattle.ps_world.proofs.names.Name.TheSendSync as name
use Rattle.ps_domain.proofs.Sends.{goal_sync}
use Rattle.ps_problem.specs.contracts.problem.Problem as Problem
use Rattle.ps_problem.proofs.problem.facts.Facts.TheSendSync as facts
use Rattle.ps_problem.proofs.problem.values.Values.TheSendSync as values

pub problem_sync : IsSync Problem.the_row
problem_sync = search (sendable, crosses, maps, name.the_field_sync, goal_sync, facts.the_sync, values.the_sync) depth 20 fits 8000
