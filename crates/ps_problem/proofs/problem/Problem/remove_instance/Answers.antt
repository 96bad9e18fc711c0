use Rattle.std.proofs.Common.{refl, rules, sym, ◌∙◌}
use Rattle.ps_problem.proofs.Removals.{without_differs}
use Rattle.ps_problem.proofs.problem.Problem.remove_instance.Goals as goal

pub returns : goal.returns
returns c =
    (search rules, (λ t e. without_differs c.args.self.now c.args.name c.kind_of.result (sym c.kind_of.ensures) c.if-is_none.ensures (sym c.leave_out.ensures ∙ e), λ d. refl))
