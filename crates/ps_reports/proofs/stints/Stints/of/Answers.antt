use Rattle.std.proofs.Common.{◌∙◌, sym, subst, arith}
use Rattle.std.proofs.lemmas.List.{take_more}
use Rattle.ps_reports.specs.Stints.{TellsStints}
use Rattle.ps_reports.proofs.Telling.{counts-taken, tells-taken}
use Rattle.ps_reports.proofs.stints.Stints.of.Goals as goal

pub take-requires : goal.take-requires
take-requires c = counts-taken c.args.h.now c.loop-entry.entry-index c.loop-entry.stints c.loop-entry.invariant.1 c.loop-entry-test.true (omega arith)

pub loop-entry-preserved : goal.loop-entry-preserved
loop-entry-preserved c = (
  c.in_ok-take.ensures.name ∙ c.loop-entry.invariant.0,
  tells-taken c.args.h.now c.loop-entry.entry-index c.entry-item.result c.loop-entry.stints c.take.new.self c.loop-entry-test.true c.entry-item.is c.loop-entry.invariant.1 c.in_ok-take.ensures,
)
