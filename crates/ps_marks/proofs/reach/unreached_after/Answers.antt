use Rattle.std.proofs.Common.{List, subst}
use Rattle.ps_action.specs.declared.acts.GroundAction.{GroundAction}
use Rattle.ps_marks.specs.Rules.{AreRules}
use Rattle.ps_marks.proofs.MarksAre.{close_first}
use Rattle.ps_marks.proofs.reach.unreached_after.Goals as goal

pub unreached_with-requires-clause-flags : goal.unreached_with-requires-clause-flags
unreached_with-requires-clause-flags c =
    let d = c.args.expert.now in
    let k = c.args.problem.now in
    let atoms = c.args.places.now in
    let P : List GroundAction → Type 0 = λ gs. AreRules d k atoms gs c.args.rules in
    close_first d k atoms c.as_slice-facts.ensures.once c.args.rules (subst P c.requires.actions c.requires.rules) c.args.start.now c.args.flags.now c.requires.start c.requires.closed
