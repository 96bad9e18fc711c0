use Rattle.std.proofs.Common.{Ok, ap, ◌∙◌, length, arith}
use Rattle.std.proofs.lemmas.Option.{slice_get-get_or, slice_get_past}
use Rattle.ps_grammar.proofs.FirstFaults.{reached_more}
use Rattle.ps_grammar.proofs.wanted.Wanted.taken.Goals as goal

pub loop-at-preserved : goal.loop-at-preserved
loop-at-preserved c = record {
  reached = reached_more c.args.self.now c.args.marks.now c.loop-at.at _ _ _ c.loop-at.invariant.reached (slice_get-get_or c.args.marks.now c.loop-at.at _ (omega arith)) (c.takes.ensures.passes (c.in_ok-takes.was ∙ ap Ok c.if-not-branch.false));
  low = omega (arith, c.takes.ensures.rises (c.in_ok-takes.was ∙ ap Ok c.if-not-branch.false));
}

pub returns-clause-stops : goal.returns-clause-stops
returns-clause-stops c = rw (slice_get_past c.args.marks.now (length c.args.marks.now) (omega arith)) tt
