use Rattle.std.proofs.Common.{Bool, List, ap, ◌∙◌}
use Rattle.ps_solve.specs.Rows.{facts_of}
use Rattle.ps_solve.proofs.FlagRows.{flag_cleared, none_cleared}
use Rattle.ps_solve.proofs.rows.forget.Goals as goal

pub returns-in-Some-clause-facts : goal.returns-in-Some-clause-facts
returns-in-Some-clause-facts c =
    ap (λ (l : List Bool). facts_of c.args.atoms.now l) c.clear.ensures
    ∙ flag_cleared c.args.fact.now c.args.atoms.now c.in-Some.place c.args.flags.now c.in-Some.ensures.rise c.in-Some.ensures.place

pub returns-in_default-clause-facts : goal.returns-in_default-clause-facts
returns-in_default-clause-facts c = none_cleared c.args.fact.now c.args.atoms.now c.args.flags.now c.in_default.ensures.place
