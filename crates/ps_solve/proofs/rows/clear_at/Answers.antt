use Rattle.std.proofs.Common.{Bool, List, ap, ◌∙◌}
use Rattle.ps_solve.specs.Rows.{facts_of}
use Rattle.ps_solve.proofs.FlagRows.{place_cleared}
use Rattle.ps_solve.proofs.rows.clear_at.Goals as goal

pub returns-clause-facts : goal.returns-clause-facts
returns-clause-facts c = ap (λ (l : List Bool). facts_of c.args.atoms.now l) c.clear.ensures ∙ place_cleared c.args.atoms.now c.args.place c.args.flags.now c.as_slice-atoms.ensures.rise
