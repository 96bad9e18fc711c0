use Rattle.std.proofs.Common.{sym, ◌∙◌}
use Rattle.ps_world.specs.Knowledge.{same_fact}
use Rattle.ps_solve.proofs.FlagRows.{has_flag, none_known}
use Rattle.ps_solve.proofs.steps.AtKnown.has.Goals as goal

pub returns-in-Some : goal.returns-in-Some
returns-in-Some c =
    let atoms = c.args.self.now.atoms.now in
    let flags = c.args.self.now.row.now.flags in
    c.get.ensures ∙ sym (has_flag c.args.fact.now atoms c.in-Some.place flags c.in-Some.ensures.rise c.in-Some.ensures.place)

pub returns-in-None : goal.returns-in-None
returns-in-None c = sym (none_known (same_fact c.args.fact.now) c.args.self.now.atoms.now c.args.self.now.row.now.flags c.in-None.ensures.place)
