use Rattle.std.proofs.Common.{arith, refl}
use Rattle.ps_text.proofs.Kept.{kept_along}
use Rattle.ps_entries.proofs.JournalLines.{all_taken, other_follows, taken_follows}
use Rattle.ps_entries.proofs.journals.read_lines.Goals as goal

pub returns-in_err-take_line-clause-kept : goal.returns-in_err-take_line-clause-kept
returns-in_err-take_line-clause-kept c = kept_along c.args.names.now c.loop-i.names _ c.loop-i.invariant.kept c.take_line.ensures.kept

pub returns-then-not-branch-clause-refused : goal.returns-then-not-branch-clause-refused
returns-then-not-branch-clause-refused c =
    other_follows c.args.first c.args.names.now c.args.bytes.now c.args.lines.now c.loop-i.i c.loop-i.entries _ c.loop-i.names _ _ _ _ c.in_ok-take_line.field-0 c.loop-i.invariant.follows (omega arith) refl refl c.in_ok-take_line.ensures.takes c.if-not-branch.true

pub returns-then-not-branch-clause-kept : goal.returns-then-not-branch-clause-kept
returns-then-not-branch-clause-kept c = kept_along c.args.names.now c.loop-i.names _ c.loop-i.invariant.kept c.take_line.ensures.kept

pub loop-i-preserved : goal.loop-i-preserved
loop-i-preserved c = record {
  follows = taken_follows c.args.first c.args.names.now c.args.bytes.now c.args.lines.now c.loop-i.i c.loop-i.entries _ c.loop-i.names _ _ _ _ c.in_ok-take_line.field-0 c.loop-i.invariant.follows (omega arith) refl refl c.in_ok-take_line.ensures.takes c.if-not-branch.false;
  kept = kept_along c.args.names.now c.loop-i.names _ c.loop-i.invariant.kept c.take_line.ensures.kept;
}

pub returns-clause-entries : goal.returns-clause-entries
returns-clause-entries c = all_taken c.args.first c.args.names.now c.args.bytes.now c.args.lines.now c.loop-i.i c.loop-i.entries c.loop-i.names c.loop-i.invariant.follows (omega arith)
