use Rattle.std.proofs.Common.{ap, ◌∙◌}
use Rattle.ps_rules.specs.Same.{first_alike}
use Rattle.ps_legal.specs.Same.{equal_causes}
use Rattle.ps_legal.proofs.same.same_cause.Goals as goal

pub returns : goal.returns
returns c =
    c.equal_causes.ensures ∙ ap (λ w. equal_causes w c.first_alike-second.result) c.first_alike-first.ensures
    ∙ ap (equal_causes (first_alike c.args.why)) c.first_alike-second.ensures
