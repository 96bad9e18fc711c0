use Rattle.std.proofs.Common.{rules}
use Rattle.ps_problem.proofs.Values.{set_changes}
use Rattle.ps_problem.proofs.problem.Problem.set_value.Goals as goal

pub returns : goal.returns
returns c =
    (search rules, set_changes _ c.args.fact c.args.number c.insert.new.self c.in_ok-held.held c.in_ok-held.ensures.rose c.in_ok-held.ensures.held c.in_ok-held.ensures.ok c.args.self.now c.is_held.result c.self.view_is c.is_held.ensures)
