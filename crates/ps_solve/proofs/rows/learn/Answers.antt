use Rattle.std.proofs.Common.{◌<◌, Bool, List, length, ap, ◌∙◌, arith}
use Rattle.std.proofs.lemmas.Option.{slice_get_within}
use Rattle.ps_solve.specs.Rows.{facts_of}
use Rattle.ps_solve.proofs.FlagRows.{flag_set}
use Rattle.ps_ground.proofs.Preparing.{no_place}
use Rattle.ps_solve.proofs.rows.learn.Goals as goal

pub returns-clause-set : goal.returns-clause-set
returns-clause-set c =
    let flags = c.args.flags.now in
    let at = slice_get_within c.args.atoms.now c.in-Some.place c.args.fact.now c.in-Some.ensures.place in
    let within : c.in-Some.place < length flags = omega (arith, at, c.requires.wide) in
    ap (λ (l : List Bool). facts_of c.args.atoms.now l) c.set.ensures
    ∙ flag_set c.args.fact.now c.args.atoms.now c.in-Some.place flags c.in-Some.ensures.rise c.in-Some.ensures.place within

pub unreachable-requires : goal.unreachable-requires
unreachable-requires c = no_place c.args.fact.now c.args.atoms.now c.in-None.ensures.place c.requires.atom
