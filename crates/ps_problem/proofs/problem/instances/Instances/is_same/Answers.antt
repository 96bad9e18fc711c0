use Rattle.std.proofs.Common.{sym, ◌∙◌}
use Rattle.ps_problem.proofs.Patches.{same_instances}
use Rattle.ps_problem.proofs.problem.instances.Instances.is_same.Goals as goal

pub returns : goal.returns
returns c =
    let told = same_instances c.self.inside.all.items c.other.inside.all.items c.eq.result c.eq.ensures in
    (λ e. sym c.self.view_is ∙ told.0 e ∙ c.other.view_is, λ e. told.1 (c.self.view_is ∙ e ∙ sym c.other.view_is))
