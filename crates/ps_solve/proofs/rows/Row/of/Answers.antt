use Rattle.std.proofs.Common.{◌∙◌}
use Rattle.ps_ground.proofs.Rising.{facts_put}
use Rattle.ps_solve.proofs.rows.Row.of.Goals as goal

pub returns-clause-same : goal.returns-clause-same
returns-clause-same c = (c.in_ok-flags_of.ensures.facts ∙ facts_put c.args.facts.now c.requires.facts, c.in_ok-of.ensures)
