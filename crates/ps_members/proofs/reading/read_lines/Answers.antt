use Rattle.std.proofs.Common.{arith, refl}
use Rattle.ps_text.proofs.Kept.{kept_along}
use Rattle.ps_members.proofs.TextLines.{end_follows, fault_follows, good_follows}
use Rattle.ps_members.proofs.reading.read_lines.Goals as goal

pub returns-in-Err-clause-reads : goal.returns-in-Err-clause-reads
returns-in-Err-clause-reads c =
    fault_follows c.args.expert.now c.args.names.now c.loop-i.names _ c.args.bytes.now c.args.lines.now c.loop-i.i _ c.loop-i.at _ _ c.step.result _ c.loop-i.invariant.follows (omega arith) refl refl c.step.ensures.leads c.in-Err.is

pub loop-i-preserved : goal.loop-i-preserved
loop-i-preserved c = record {
  follows = good_follows c.args.expert.now c.args.names.now c.loop-i.names _ c.args.bytes.now c.args.lines.now c.loop-i.i _ c.loop-i.at _ _ _ c.step.result c.loop-i.invariant.follows (omega arith) refl refl c.step.ensures.leads c.in-Ok.is;
  kept = kept_along c.args.names.now c.loop-i.names _ c.loop-i.invariant.kept c.step.ensures.kept;
}

pub returns-clause-reads : goal.returns-clause-reads
returns-clause-reads c =
    end_follows c.args.expert.now c.args.names.now c.loop-i.names c.args.bytes.now c.args.lines.now c.loop-i.i _ c.loop-i.at _ c.loop-i.invariant.follows (omega arith) (omega arith) c.at_end.ensures
